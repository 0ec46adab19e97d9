-- The handler's calls do not show 16 on the words of a queue: what it passes on are answers of the queue's calls. Assumes nothing.
use mathlib.Core.Path.{◌≡◌, refl, subst, sym}
use mathlib.Core.Bool.{Bool, true, false}
use mathlib.Core.List.{List, [], ◌∷◌}
use Prim.Native.Nat.{ℕ}
use lib.Dec.{eqb, ltb}
use lib.ListN.{length}
use Rattle.std.specs.Prelude.{if◌then◌else◌}
use Rattle.queue_streams.specs.Restart.{reopen}
use Rattle.queue_streams.specs.Call.{Call}
use Rattle.queue_streams.specs.Call as call
use Rattle.queue_streams.specs.Number.{Number}
use Rattle.queue_streams.specs.Number as number
use Rattle.queue_restarts.specs.Ready.{ready_count}
use Rattle.queue_restarts.specs.Reset.{reset_queue}
use Rattle.queue_runs.specs.Calls as calls
use Rattle.queue_runs.specs.Run.{State, step}
use Rattle.queue_runs.specs.Creation.{sixteen}
use Rattle.queue_runs.specs.Meaning.{GoodState}
use Rattle.queue_runs.proofs.Runs.{run_link}
use Rattle.queue_runs.proofs.Steps.{step_link}
use Rattle.reset_model.specs.Wire as wire
use Rattle.reset_model.specs.Wire.{request_size}
use Rattle.reset_wire.specs.Reading.{response_of}
use Rattle.reset_wire.specs.Response.{Response}
use Rattle.reset_wire.specs.Response as response
use Rattle.stream_reset_handler.specs.declared.handler.StreamResetHandler.{StreamResetHandler}
use Rattle.stream_reset_handler.specs.Underway.{Underway}
use Rattle.std.specs.Prelude.{Some, None}
use Rattle.stream_reset_handler.specs.RequestAnswer as making
use Rattle.stream_reset_handler.specs.ResponseAnswer as receiving
use Rattle.stream_reset_handler.specs.Handler.{is_underway}
use Rattle.stream_reset_handler.specs.Making.{make_request, request_in, request_for, written_for, made_with, told}
use Rattle.stream_reset_handler.specs.Receiving.{HandledWith, handled_with, handled, handle_response, respond_to, finished_by, finished, ignored_in, reset_by}
use Rattle.reset_runs.specs.Uses.{Use, Allowed, Pair, ready_in, ends_in, requested, responded, used, after}
use Rattle.reset_runs.specs.Uses as uses
use Rattle.reset_runs.proofs.AsCalls.{handler_as_calls}
use Rattle.no_sixteen.specs.Shows.{sixteen_request, sixteen_response, use_shows, UseTyped, UsesTyped, NoUseShows}
use Rattle.no_sixteen.proofs.Calls.{good_call}

-- ---- the queue's own answers

module _ (s : State) (g : GoodState s) where
  count_not : sixteen (calls.number (ready_count s.words)) ≡ false
  unfolding step
  count_not = good_call calls.ask_ready_count s g tt

  reopen_not : (z : Bool) → sixteen (calls.called (reopen z s.words).answer) ≡ false
  unfolding step
  reopen_not true = good_call calls.commit s g tt
  reopen_not false = good_call calls.rollback s g tt

  reset_not : sixteen (calls.called (reset_queue s.words).answer) ≡ false
  unfolding step
  reset_not = good_call calls.reset s g tt

-- ---- making a request

module _ (out : List ℕ) (response_number last_tsn : ℕ) (p : Pair) where
  abbrev ws : List ℕ
  ws = p.queue.words

  for_value : (k : ℕ) (a b : Bool)
      → sixteen_request (if a then made_with (told making.NoneReady p.handler) ws out else if b then made_with (told (making.Refused 26) p.handler) ws out else written_for k (ready_in ws) p.handler out response_number last_tsn).made.answer ≡ false
  for_value k true b = refl
  for_value k false true = refl
  for_value k false false = refl

  for_count : (c : Number) → sixteen (calls.number c) ≡ false → sixteen_request (request_for c (ready_in ws) ws p.handler out response_number last_tsn).made.answer ≡ false
  for_count (number.Refused k) e = e
  for_count (number.Value k) e = for_value k (eqb k 0) (ltb (length out) (request_size k))

  for_underway : (u : Underway) → GoodState p.queue → sixteen_request (request_in u (ready_in ws) ws p.handler out response_number last_tsn).made.answer ≡ false
  for_underway (Some k) g = refl
  for_underway None g = for_count (ready_count ws) (count_not p.queue g)

  request_not : GoodState p.queue → sixteen_request (requested out response_number last_tsn p).made.answer ≡ false
  unfolding make_request
  request_not g = for_underway p.handler.underway g

-- ---- taking a response

finished_not : (z : Bool) (a : Call) (ws : List ℕ) (h : StreamResetHandler) → sixteen (calls.called a) ≡ false → sixteen_response (finished_by z a ws h).handled_as.answer ≡ false
finished_not true (call.Accepted k) ws h e = refl
finished_not false (call.Accepted k) ws h e = refl
finished_not z (call.Refused k) ws h e = e

either : (b : Bool) (x y : HandledWith) → sixteen_response x.handled_as.answer ≡ false → sixteen_response y.handled_as.answer ≡ false → sixteen_response (if b then x else y).handled_as.answer ≡ false
either true x y e f = e
either false x y e f = f

by_response : (p : Pair) (r : Response) → GoodState p.queue → sixteen_response (respond_to r (ends_in p.queue.words) p.queue.words p.handler).handled_as.answer ≡ false
by_response p (response.Commits k) g =
    either (is_underway p.handler k) (finished true (ends_in p.queue.words).commit p.handler) (ignored_in p.queue.words p.handler)
    (finished_not true (reopen true p.queue.words).answer (reopen true p.queue.words).next p.handler (reopen_not p.queue g true)) refl
by_response p (response.RollsBack k) g =
    either (is_underway p.handler k) (finished false (ends_in p.queue.words).rollback p.handler) (ignored_in p.queue.words p.handler)
    (finished_not false (reopen false p.queue.words).answer (reopen false p.queue.words).next p.handler (reopen_not p.queue g false)) refl
by_response p (response.KeepsWaiting k) g = either (is_underway p.handler k) (handled_with (handled receiving.StillWaiting p.handler) p.queue.words) (ignored_in p.queue.words p.handler) refl refl
by_response p response.Malformed g = refl

response_not : (bs : List ℕ) (p : Pair) → GoodState p.queue → sixteen_response (responded bs p).handled_as.answer ≡ false
unfolding handle_response
response_not bs p g = by_response p (response_of (wire.read_response bs)) g

-- ---- the whole-queue reset

restart_not : (a : Call) (ws : List ℕ) (h : StreamResetHandler) → sixteen (calls.called a) ≡ false → sixteen (calls.called (reset_by a ws h).reset_as.answer) ≡ false
restart_not (call.Accepted k) ws h e = refl
restart_not (call.Refused k) ws h e = e

-- ---- any use, and lists of them

pub good_use : (u : Use) (p : Pair) → GoodState p.queue → UseTyped u → use_shows u p ≡ false
good_use (uses.request out r t) p g h = request_not out r t p g
good_use (uses.response bs) p g h = response_not bs p g
good_use uses.reset p g h = restart_not (reset_queue p.queue.words).answer (reset_queue p.queue.words).next p.handler (reset_not p.queue g)
good_use (uses.other c) p g h = good_call c p.queue g h

-- the handler's own calls are calls of the queue's
own_good : (u : Use) (p : Pair) → Allowed u → GoodState p.queue → GoodState (used u p).queue
unfolding after
own_good u p a g = let q = handler_as_calls (u ∷ []) p (a, tt) in subst GoodState (sym q.same) (run_link q.calls p.queue g q.typed).good

other_good : (c : calls.Call) (p : Pair) → calls.Typed c → GoodState p.queue → GoodState (used (uses.other c) p).queue
unfolding used
other_good c p t g = (step_link c p.queue g t).good

pub kept_good : (u : Use) (p : Pair) → GoodState p.queue → UseTyped u → GoodState (used u p).queue
kept_good (uses.request out r t) p g h = own_good (uses.request out r t) p tt g
kept_good (uses.response bs) p g h = own_good (uses.response bs) p tt g
kept_good uses.reset p g h = own_good uses.reset p tt g
kept_good (uses.other c) p g h = other_good c p h g

pub good_uses : (us : List Use) (p : Pair) → GoodState p.queue → UsesTyped us → NoUseShows us p
good_uses [] p g t = tt
good_uses (u ∷ us) p g t = (good_use u p g t.0, good_uses us (used u p) (kept_good u p g t.0) t.1)
