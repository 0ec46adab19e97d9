-- Refused calls of the handler (specs/Refusals): its own tests come before anything is written, and what it passes on is a refused call of the queue's.
-- Assumes nothing.
use Prim.Native.Nat.{ℕ}
use mathlib.Core.Path.{◌≡◌, refl, sym, ap, ◌∙◌, subst}
use mathlib.Core.Bool.{Bool, true, false}
use mathlib.Core.List.{List, [], ◌∷◌}
use native.Mathlib.Omega.{arith}
use borrow.Author.Tests.{eqb-true}
use lib.Dec.{eqb, ltb}
use lib.ListN.{length}
use Rattle.queue_words.specs.Flags.{pick}
use Rattle.std.specs.Prelude.{if◌then◌else◌}
use Rattle.queue_streams.specs.Answers.{call_number, number_number}
use Rattle.queue_streams.specs.Restart.{reopen}
use Rattle.queue_streams.specs.Call.{Call}
use Rattle.queue_streams.specs.Call as call
use Rattle.queue_streams.specs.Number.{Number}
use Rattle.queue_streams.specs.Number as number
use Rattle.queue_restarts.specs.Ready.{ready_count}
use Rattle.queue_restarts.specs.Reset.{reset_queue}
use Rattle.queue_runs.specs.Calls as calls
use Rattle.queue_runs.specs.Run.{State, state, step}
use Rattle.queue_runs.specs.Refusals.{refusal}
use Rattle.queue_runs.specs.Numbers.{among}
use Rattle.queue_runs.proofs.Stays.{refused_unchanged}
use Rattle.queue_runs.proofs.Listed.{refusals_listed}
use Rattle.reset_model.specs.Wire as wire
use Rattle.reset_wire.specs.Reading.{response_of}
use Rattle.reset_wire.specs.Response.{Response}
use Rattle.reset_wire.specs.Response as response
use Rattle.stream_reset_handler.specs.Underway.{Underway}
use Rattle.std.specs.Prelude.{Some, None}
use Rattle.stream_reset_handler.specs.RequestAnswer.{RequestAnswer}
use Rattle.stream_reset_handler.specs.RequestAnswer as making
use Rattle.stream_reset_handler.specs.ResponseAnswer.{ResponseAnswer}
use Rattle.stream_reset_handler.specs.ResponseAnswer as receiving
use Rattle.stream_reset_handler.specs.Handler.{is_underway}
use Rattle.stream_reset_handler.specs.Making.{MadeWith, make_request, request_in, request_for, written_for, made_with, told}
use Rattle.stream_reset_handler.specs.Receiving.{HandledWith, handled_with, handled, handle_response, respond_to, finished_by, finished, ignored_in, reset_by}
use Rattle.reset_model.specs.Wire.{request_size}
use Rattle.reset_runs.specs.Uses.{Pair, pair, ready_in, ends_in, requested, responded, was_reset, used}
use Rattle.reset_runs.specs.Uses as uses
use Rattle.reset_runs.specs.Refusals.{Refused, HandlerRefused}

-- ---- the queue's own calls

only_16 : (k : ℕ) → among k (16 ∷ []) ≡ true → k ≡ 16
only_16 k e = go (eqb k 16) refl e
  where
    go : (b : Bool) → eqb k 16 ≡ b → pick b true false ≡ true → k ≡ 16
    go true d f = eqb-true k 16 d
    go false d f = let z : ◌≡◌ {A = ℕ} 0 1 = cc in absurd (omega arith)

-- commit (true) or rollback, refused
reopen_refused : (z : Bool) (s : State) (k : ℕ) → (reopen z s.words).answer ≡ call.Refused k → ((reopen z s.words).next ≡ s.words) × (k ≡ 16)
unfolding step
reopen_refused true s k d =
    let r : refusal (calls.called (reopen true s.words).answer) ≡ true = ap (λ (a : Call). refusal (calls.called a)) d in
    (ap (λ (x : State). x.words) (refused_unchanged calls.commit s r).queue, only_16 k (subst (λ (a : Call). among (call_number a) (16 ∷ []) ≡ true) d (refusals_listed calls.commit s r)))
reopen_refused false s k d =
    let r : refusal (calls.called (reopen false s.words).answer) ≡ true = ap (λ (a : Call). refusal (calls.called a)) d in
    (ap (λ (x : State). x.words) (refused_unchanged calls.rollback s r).queue, only_16 k (subst (λ (a : Call). among (call_number a) (16 ∷ []) ≡ true) d (refusals_listed calls.rollback s r)))

reset_refused : (s : State) (k : ℕ) → (reset_queue s.words).answer ≡ call.Refused k → ((reset_queue s.words).next ≡ s.words) × (k ≡ 16)
unfolding step
reset_refused s k d =
    let r : refusal (calls.called (reset_queue s.words).answer) ≡ true = ap (λ (a : Call). refusal (calls.called a)) d in
    (ap (λ (x : State). x.words) (refused_unchanged calls.reset s r).queue, only_16 k (subst (λ (a : Call). among (call_number a) (16 ∷ []) ≡ true) d (refusals_listed calls.reset s r)))

count_refused : (s : State) (k : ℕ) → ready_count s.words ≡ number.Refused k → k ≡ 16
unfolding step
count_refused s k d =
    let r : refusal (calls.number (ready_count s.words)) ≡ true = ap (λ (a : Number). refusal (calls.number a)) d in
    only_16 k (subst (λ (a : Number). among (number_number a) (16 ∷ []) ≡ true) d (refusals_listed calls.ask_ready_count s r))

-- ---- what an answer is

abbrev request_number : RequestAnswer → ℕ
request_number (making.Written size) = 0
request_number making.NoneReady = 0
request_number (making.Refused n) = n

abbrev request_refuses : RequestAnswer → Bool
request_refuses (making.Written size) = false
request_refuses making.NoneReady = false
request_refuses (making.Refused n) = true

abbrev response_number : ResponseAnswer → ℕ
response_number receiving.Ignored = 0
response_number receiving.Committed = 0
response_number receiving.RolledBack = 0
response_number receiving.StillWaiting = 0
response_number (receiving.Refused n) = n

abbrev response_refuses : ResponseAnswer → Bool
response_refuses receiving.Ignored = false
response_refuses receiving.Committed = false
response_refuses receiving.RolledBack = false
response_refuses receiving.StillWaiting = false
response_refuses (receiving.Refused n) = true

abbrev call_refuses : Call → Bool
call_refuses (call.Accepted k) = false
call_refuses (call.Refused n) = true

no : {A : Type 0} → ◌≡◌ {A = Bool} false true → A
no e = let z : ◌≡◌ {A = ℕ} 0 1 = cc in absurd (omega arith)

-- ---- making a request

module _ (out : List ℕ) (response_number last_tsn : ℕ) (p : Pair) (n : ℕ) where
  abbrev ws : List ℕ
  ws = p.queue.words

  -- what is claimed, of what the call leaves
  abbrev Claim : MadeWith → Type 0
  Claim m = ((pair m.made.handler (state m.words p.queue.store) ≡ p) × (among n (25 ∷ 16 ∷ 26 ∷ []) ≡ true)) × (m.output ≡ out)

  abbrev refused_with : ℕ → MadeWith
  refused_with k = made_with (told (making.Refused k) p.handler) ws out

  by_number : (k : ℕ) → among k (25 ∷ 16 ∷ 26 ∷ []) ≡ true → ◌≡◌ {A = RequestAnswer} (making.Refused k) (making.Refused n) → Claim (refused_with k)
  by_number k l e = ((refl, subst (λ (x : ℕ). among x (25 ∷ 16 ∷ 26 ∷ []) ≡ true) (ap request_number e) l), refl)

  for_value : (k : ℕ) (a b : Bool)
      → (if a then made_with (told making.NoneReady p.handler) ws out else if b then refused_with 26 else written_for k (ready_in ws) p.handler out response_number last_tsn).made.answer ≡ making.Refused n
      → Claim (if a then made_with (told making.NoneReady p.handler) ws out else if b then refused_with 26 else written_for k (ready_in ws) p.handler out response_number last_tsn)
  for_value k true b e = no (ap request_refuses e)
  for_value k false true e = by_number 26 refl e
  for_value k false false e = no (ap request_refuses e)

  for_count : (c : Number) → ready_count ws ≡ c → (request_for c (ready_in ws) ws p.handler out response_number last_tsn).made.answer ≡ making.Refused n → Claim (request_for c (ready_in ws) ws p.handler out response_number last_tsn)
  for_count (number.Refused k) d e = by_number k (subst (λ (x : ℕ). among x (25 ∷ 16 ∷ 26 ∷ []) ≡ true) (sym (count_refused p.queue k d)) refl) e
  for_count (number.Value k) d e = for_value k (eqb k 0) (ltb (length out) (request_size k)) e

  for_underway : (u : Underway) → (request_in u (ready_in ws) ws p.handler out response_number last_tsn).made.answer ≡ making.Refused n → Claim (request_in u (ready_in ws) ws p.handler out response_number last_tsn)
  for_underway (Some k) e = by_number 25 refl e
  for_underway None e = for_count (ready_count ws) refl e

  request_left : (requested out response_number last_tsn p).made.answer ≡ making.Refused n → Refused (uses.request out response_number last_tsn) p n (25 ∷ 16 ∷ 26 ∷ []) × ((requested out response_number last_tsn p).output ≡ out)
  unfolding make_request used
  request_left e = let c = for_underway p.handler.underway e in (record { unchanged = c.0.0; listed = c.0.1 }, c.1)

-- ---- taking a response

module _ (p : Pair) (n : ℕ) where
  abbrev Left : HandledWith → Type 0
  Left a = (pair a.handled_as.handler (state a.words p.queue.store) ≡ p) × (among n (27 ∷ 16 ∷ []) ≡ true)

  ended : (z : Bool) (a : Call) → (reopen z p.queue.words).answer ≡ a → (finished_by z a (reopen z p.queue.words).next p.handler).handled_as.answer ≡ receiving.Refused n
      → Left (finished_by z a (reopen z p.queue.words).next p.handler)
  ended true (call.Accepted k) d e = no (ap response_refuses e)
  ended false (call.Accepted k) d e = no (ap response_refuses e)
  ended z (call.Refused k) d e =
      let r = reopen_refused z p.queue k d in
      (ap (λ (x : List ℕ). pair p.handler (state x p.queue.store)) r.0, subst (λ (x : ℕ). among x (27 ∷ 16 ∷ []) ≡ true) (sym r.1 ∙ ap response_number e) refl)

  either : (b : Bool) (x y : HandledWith) → (x.handled_as.answer ≡ receiving.Refused n → Left x) → (y.handled_as.answer ≡ receiving.Refused n → Left y) → (if b then x else y).handled_as.answer ≡ receiving.Refused n → Left (if b then x else y)
  either true x y f g e = f e
  either false x y f g e = g e

  ignored : (ignored_in p.queue.words p.handler).handled_as.answer ≡ receiving.Refused n → Left (ignored_in p.queue.words p.handler)
  ignored e = no (ap response_refuses e)

  by_response : (r : Response) → (respond_to r (ends_in p.queue.words) p.queue.words p.handler).handled_as.answer ≡ receiving.Refused n → Left (respond_to r (ends_in p.queue.words) p.queue.words p.handler)
  by_response (response.Commits k) e =
      either (is_underway p.handler k) (finished true (ends_in p.queue.words).commit p.handler) (ignored_in p.queue.words p.handler) (λ f. ended true (reopen true p.queue.words).answer refl f) (λ f. ignored f) e
  by_response (response.RollsBack k) e =
      either (is_underway p.handler k) (finished false (ends_in p.queue.words).rollback p.handler) (ignored_in p.queue.words p.handler) (λ f. ended false (reopen false p.queue.words).answer refl f) (λ f. ignored f) e
  by_response (response.KeepsWaiting k) e =
      either (is_underway p.handler k) (handled_with (handled receiving.StillWaiting p.handler) p.queue.words) (ignored_in p.queue.words p.handler) (λ f. no (ap response_refuses f)) (λ f. ignored f) e
  by_response response.Malformed e = (refl, subst (λ (x : ℕ). among x (27 ∷ 16 ∷ []) ≡ true) (ap response_number e) refl)

response_left : (bs : List ℕ) (p : Pair) (n : ℕ) → (responded bs p).handled_as.answer ≡ receiving.Refused n → Refused (uses.response bs) p n (27 ∷ 16 ∷ [])
unfolding handle_response used
response_left bs p n e = let c = by_response p n (response_of (wire.read_response bs)) e in record { unchanged = c.0; listed = c.1 }

-- ---- the whole-queue reset

reset_left : (p : Pair) (n : ℕ) → (was_reset p).reset_as.answer ≡ call.Refused n → Refused uses.reset p n (16 ∷ [])
unfolding used
reset_left p n e = go (reset_queue p.queue.words).answer refl e
  where
    go : (a : Call) → (reset_queue p.queue.words).answer ≡ a → (reset_by a (reset_queue p.queue.words).next p.handler).reset_as.answer ≡ call.Refused n → Refused uses.reset p n (16 ∷ [])
    go (call.Accepted k) d f = no (ap call_refuses f)
    go (call.Refused k) d f =
        let r = reset_refused p.queue k d in
        record {
          unchanged = ap (λ (a : Call). pair (reset_by a (reset_queue p.queue.words).next p.handler).reset_as.handler (state (reset_by a (reset_queue p.queue.words).next p.handler).words p.queue.store)) d
              ∙ ap (λ (x : List ℕ). pair p.handler (state x p.queue.store)) r.0;
          listed = subst (λ (x : ℕ). among x (16 ∷ []) ≡ true) (sym r.1 ∙ ap call_number f) refl;
        }

pub handler_refused : HandlerRefused
handler_refused = record {
  requests = λ out r t p n e. request_left out r t p n e;
  responses = λ bs p n e. response_left bs p n e;
  resets = λ p n e. reset_left p n e;
}
