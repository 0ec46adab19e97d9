-- Request 9/13, its theorem (specs/Uses): from the handler's start exactly the streams of the request underway are resetting. Assumes nothing.
use mathlib.Core.Path.{◌≡◌, refl, sym, ap, ◌∙◌, subst}
use mathlib.Core.Bool.{Bool, true, false}
use mathlib.Core.List.{List, [], ◌∷◌, map}
use mathlib.Core.Option.{Option, none, some}
use Prim.Native.Nat.{ℕ, ◌+◌, ◌<◌, ◌^◌}
use native.Mathlib.Omega.{arith}
use lib.Dec.{eqb, ltb}
use lib.ListN.{length}
use Rattle.std.specs.Prelude.{if◌then◌else◌}
use Rattle.queue_model.specs.Types as queue
use Rattle.queue_model.specs.Types.{Options, Queue, Step, done, reply, with_state}
use Rattle.queue_model.specs.Streams.{new_queue, has_items, reschedule_each}
use Rattle.queue_model.specs.Refusals.{first_refusal, refused_or, checked}
use Rattle.queue_model.specs.Reset.{paused_ids, paused_to_resetting, reopen, reset_stream, all_put_back, reset_checks}
use Rattle.queue_model.specs.Run as run
use Rattle.queue_model.specs.Calls
use Rattle.queue_model.specs.Image.{Handover}
use Rattle.queue_model.specs.Reader.{read_image}
use Rattle.queue_model.specs.Restore.{restored, restore_read, restore_checks, record_checks}
use Rattle.queue_model.specs.Demands.{Restores}
use Rattle.queue_model.specs.Ascending.{Ascending}
use Rattle.queue_model.proofs.Ready.{paused_ascending}
use Rattle.queue_model.proofs.Checks.{past, restore_of, read_none, read_some}
use Rattle.queue_model.proofs.Invariant.Well.{Well, well_new, room}
use Rattle.queue_model.proofs.Invariant.Sixteen.{fine_step, reachable_well}
use Rattle.reset_model.specs.Wire.{request_size, request_bytes, Response, read_response, Verdict, commits, rolls_back, keeps_waiting}
use Rattle.reset_model.specs.Handler.{Request, Handler, start, ended, refused, ignored, effect, made, request_for, request_in, make_request, decided, answered, received, handle_response, restarted, whole_reset, resetting_ids, streams_underway}
use Rattle.reset_model.specs.Uses.{Use, request, response, reset, other, AllAllowed, Allowed, Pair, pair, pair_of, used, after, Starts, new, restored_from, last_written, message_after, last_message, Named, NamedIn, Exact, Request9, Request9Message}
use Rattle.reset_model.proofs.Resetting.{marked_ids, none_reopened, none_reset}
use Rattle.reset_model.proofs.Others.{same_other, restored_none}

-- What every use keeps.
pub record Kept (p : Pair) : Type 0 where
  pub exact : resetting_ids p.queue.streams ≡ streams_underway p.handler.underway
  pub well : Well p.queue

-- ---- making a request

kept_made : (response_number last_tsn : ℕ) (ids : List ℕ) (r : Handler) (q : Queue) → Well q → resetting_ids q.streams ≡ [] → paused_ids q.streams ≡ ids → Kept (pair_of (made response_number last_tsn ids r q))
unfolding made run.step Calls.ready_ids
kept_made response_number last_tsn ids r q w n e = record { exact = marked_ids q.streams n ∙ e; well = (fine_step run.ready_ids q tt w).next_well }

kept_for : (room response_number last_tsn : ℕ) (ids : List ℕ) (r : Handler) (q : Queue) → Kept (pair r q) → resetting_ids q.streams ≡ [] → paused_ids q.streams ≡ ids → Kept (pair_of (request_for room response_number last_tsn ids r q))
unfolding request_for
kept_for room response_number last_tsn [] r q k n e = k
kept_for room response_number last_tsn (i ∷ is) r q k n e = go (ltb room (request_size (length (i ∷ is))))
  where
    go : (b : Bool) → Kept (pair_of (if b then effect (refused 26) r q else made response_number last_tsn (i ∷ is) r q))
    go true = k
    go false = kept_made response_number last_tsn (i ∷ is) r q k.well n e

kept_request : (room response_number last_tsn : ℕ) (r : Handler) (q : Queue) → Kept (pair r q) → Kept (pair_of (make_request room response_number last_tsn r q))
unfolding make_request request_in
kept_request room response_number last_tsn r q k = go r.underway refl
  where
    go : (u : Option Request) → r.underway ≡ u → Kept (pair_of (request_in u room response_number last_tsn r q))
    go none e = kept_for room response_number last_tsn (paused_ids q.streams) r q k (k.exact ∙ ap streams_underway e) refl
    go (some u) e = k

-- ---- receiving a response

kept_decided : (v : Verdict) (r : Handler) (q : Queue) → Kept (pair r q) → Kept (pair_of (decided v r q))
unfolding decided run.step Calls.commit Calls.rollback reopen
kept_decided commits r q k = record { exact = none_reopened true q.streams; well = (fine_step run.commit q tt k.well).next_well }
kept_decided rolls_back r q k = record { exact = none_reopened false q.streams; well = (fine_step run.rollback q tt k.well).next_well }
kept_decided keeps_waiting r q k = k

kept_answered : (u : Option Request) (a : Response) (r : Handler) (q : Queue) → Kept (pair r q) → Kept (pair_of (answered u a r q))
unfolding answered
kept_answered none a r q k = k
kept_answered (some u) a r q k = go (eqb a.number u.number)
  where
    go : (b : Bool) → Kept (pair_of (if b then decided a.verdict r q else effect ignored r q))
    go true = kept_decided a.verdict r q k
    go false = k

kept_received : (x : Option Response) (r : Handler) (q : Queue) → Kept (pair r q) → Kept (pair_of (received x r q))
unfolding received
kept_received none r q k = k
kept_received (some a) r q k = kept_answered r.underway a r q k

-- ---- the whole-queue reset

kept_reset : (r : Handler) (q : Queue) → Kept (pair r q) → Kept (pair_of (whole_reset r q))
unfolding whole_reset run.step Calls.reset checked refused_or
kept_reset r q k = go (first_refusal (reset_checks q)) (fine_step run.reset q tt k.well).next_well
  where
    s : Step
    s =
        let ss = map (reset_stream q.options.strict_restart) q.streams in
        reply done [] (with_state q (q.total + all_put_back q.streams) ss (reschedule_each q.interleaving has_items ss q.scheduler))

    go : (x : Option ℕ) → Well (refused_or x q s).next → Kept (pair_of (restarted (refused_or x q s).outcome.answer r q (refused_or x q s).next))
    go none w = record { exact = none_reset q.options.strict_restart q.streams; well = w }
    go (some n) w = k

-- ---- lists of uses

pub kept_used : (u : Use) (p : Pair) → Allowed u → Kept p → Kept (used u p)
unfolding used handle_response
kept_used (request room response_number last_tsn) p a k = kept_request room response_number last_tsn p.handler p.queue k
kept_used (response bytes) p a k = kept_received (read_response bytes) p.handler p.queue k
kept_used reset p a k = kept_reset p.handler p.queue k
kept_used (other c) p a k = record { exact = same_other c p.queue k.well a.1 ∙ k.exact; well = (fine_step c p.queue a.0 k.well).next_well }

pub kept_after : (us : List Use) (p : Pair) → AllAllowed us → Kept p → Kept (after us p)
unfolding after
kept_after [] p a k = k
kept_after (u ∷ us) p a k = kept_after us (used u p) a.1 (kept_used u p a.0 k)

-- ---- the start

none_new : (o : Options) → resetting_ids (new_queue o).streams ≡ []
unfolding new_queue resetting_ids
none_new o = refl

-- An accepted image's queue is the one that its record restores.
none_read : (now : ℕ) (q₀ q : Queue) (x : Option Handover) → restore_read now q₀ x ≡ reply done [] q → resetting_ids q.streams ≡ []
none_read now q₀ q none e =
    let a = ap (λ (s : Step). s.outcome.answer) (sym (read_none now q₀) ∙ e) in let z : ◌≡◌ {A = ℕ} 0 1 = cc in absurd (omega arith)
none_read now q₀ q (some h) e =
    let a = past (record_checks now q₀ h) q₀ q (reply done [] (restored now h q₀)) (sym (read_some now q₀ h) ∙ e) in
    ap (λ (s : Step). resetting_ids s.next.streams) (sym a.1) ∙ restored_none now h q₀

none_restored : (now : ℕ) (image : List ℕ) (q₀ q : Queue) → Restores now image q₀ q → resetting_ids q.streams ≡ []
none_restored now image q₀ q r =
    let a = past (restore_checks q₀.options.store_length now q₀) q₀ q (restore_read now q₀ (read_image image)) (sym (restore_of q₀.options.store_length now image q₀) ∙ r.accepted) in
    none_read now q₀ q (read_image image) a.1

well_restored : (now : ℕ) (image : List ℕ) (q₀ q : Queue) → Well q₀ → now < 2 ^ 64 → Restores now image q₀ q → Well q
unfolding run.step
well_restored now image q₀ q w h r =
    let l = (room q₀.options w.creation).store_high in
    let s : q₀.options.store_length < 2 ^ 64 = omega arith in
    subst (λ (x : Step). Well x.next) r.accepted (fine_step (run.restore q₀.options.store_length now image) q₀ (s, (h, r.bytes)) w).next_well

pub kept_start : (o : Options) (q : Queue) (n : ℕ) → Starts o q → Kept (pair (start n) q)
kept_start o _ n (new c) = record { exact = none_new o; well = well_new o c }
kept_start o q n (restored_from {q₀} {now = t} {image = i} a h r) = record { exact = none_restored t i q₀ q r; well = well_restored t i q₀ q (reachable_well a) h r }

pub request9 : Request9
unfolding Request9 Exact
request9 o q n us s a = (kept_after us (pair (start n) q) a (kept_start o q n s)).exact

-- ---- the message

abbrev Naming : Pair → Option (List ℕ) → Type 0
Naming p l = Named p.handler.underway (resetting_ids p.queue.streams) l

named_made : (response_number last_tsn : ℕ) (ids : List ℕ) (h : Handler) (q : Queue) (l : Option (List ℕ)) → Well q → resetting_ids q.streams ≡ [] → paused_ids q.streams ≡ ids
    → (let e = made response_number last_tsn ids h q in Naming (pair_of e) (last_written e.answer l))
unfolding made run.step Calls.ready_ids
named_made response_number last_tsn ids h q l w n e =
    let m : resetting_ids (map paused_to_resetting q.streams) ≡ ids = marked_ids q.streams n ∙ e in
    record {
      response_number = response_number;
      last_tsn = last_tsn;
      bytes_are = ap (λ (is : List ℕ). some (request_bytes h.next_number response_number last_tsn is)) (sym m);
      ascending = subst Ascending (sym (marked_ids q.streams n)) (paused_ascending q.streams w.rising);
    }

named_for : (room response_number last_tsn : ℕ) (ids : List ℕ) (h : Handler) (q : Queue) (l : Option (List ℕ)) → Well q → Naming (pair h q) l → resetting_ids q.streams ≡ [] → paused_ids q.streams ≡ ids
    → (let e = request_for room response_number last_tsn ids h q in Naming (pair_of e) (last_written e.answer l))
unfolding request_for
named_for room response_number last_tsn [] h q l w k n e = k
named_for room response_number last_tsn (i ∷ is) h q l w k n e = go (ltb room (request_size (length (i ∷ is))))
  where
    go : (b : Bool) → (let f = (if b then effect (refused 26) h q else made response_number last_tsn (i ∷ is) h q) in Naming (pair_of f) (last_written f.answer l))
    go true = k
    go false = named_made response_number last_tsn (i ∷ is) h q l w n e

named_request : (room response_number last_tsn : ℕ) (h : Handler) (q : Queue) (l : Option (List ℕ)) → Kept (pair h q) → Naming (pair h q) l
    → (let e = make_request room response_number last_tsn h q in Naming (pair_of e) (last_written e.answer l))
unfolding make_request request_in
named_request room response_number last_tsn h q l k a = go h.underway refl
  where
    go : (u : Option Request) → h.underway ≡ u → (let e = request_in u room response_number last_tsn h q in Naming (pair_of e) (last_written e.answer l))
    go none e = named_for room response_number last_tsn (paused_ids q.streams) h q l k.well a (k.exact ∙ ap streams_underway e) refl
    go (some u) e = a

-- Without a request underway exactness says that none is resetting.
named_none : (p : Pair) (l : Option (List ℕ)) → p.handler.underway ≡ none → Kept p → Naming p l
named_none p l e k = subst (λ (u : Option Request). Named u (resetting_ids p.queue.streams) l) (sym e) (k.exact ∙ ap streams_underway e)

named_received : (x : Option Response) (h : Handler) (q : Queue) (l : Option (List ℕ)) → Kept (pair h q) → Naming (pair h q) l → Naming (pair_of (received x h q)) l
unfolding received answered decided
named_received none h q l k a = a
named_received (some r) h q l k a = go h.underway
  where
    by : (b : Bool) (v : Verdict) → Naming (pair_of (if b then decided v h q else effect ignored h q)) l
    by true commits = named_none (pair_of (decided commits h q)) l refl (kept_decided commits h q k)
    by true rolls_back = named_none (pair_of (decided rolls_back h q)) l refl (kept_decided rolls_back h q k)
    by true keeps_waiting = a
    by false v = a

    go : (u : Option Request) → Naming (pair_of (answered u r h q)) l
    go none = a
    go (some u) = by (eqb r.number u.number) r.verdict

named_reset : (h : Handler) (q : Queue) (l : Option (List ℕ)) → Kept (pair h q) → Naming (pair h q) l → Naming (pair_of (whole_reset h q)) l
unfolding whole_reset
named_reset h q l k a = go (run.step run.reset q).outcome.answer (kept_reset h q k)
  where
    q' : Queue
    q' = (run.step run.reset q).next

    go : (x : queue.Answer) → Kept (pair_of (restarted x h q q')) → Naming (pair_of (restarted x h q q')) l
    go (queue.refused n) v = a
    go queue.done v = named_none (pair (ended h) q') l refl v
    go (queue.number m) v = named_none (pair (ended h) q') l refl v
    go (queue.flag b) v = named_none (pair (ended h) q') l refl v
    go (queue.ids ks) v = named_none (pair (ended h) q') l refl v
    go (queue.fragment f) v = named_none (pair (ended h) q') l refl v
    go queue.nothing_waits v = named_none (pair (ended h) q') l refl v
    go (queue.filled bs n) v = named_none (pair (ended h) q') l refl v

named_used : (u : Use) (p : Pair) (l : Option (List ℕ)) → Allowed u → Kept p → Naming p l → Naming (used u p) (message_after u p l)
unfolding used message_after handle_response
named_used (request room response_number last_tsn) p l a k n = named_request room response_number last_tsn p.handler p.queue l k n
named_used (response bytes) p l a k n = named_received (read_response bytes) p.handler p.queue l k n
named_used reset p l a k n = named_reset p.handler p.queue l k n
named_used (other c) p l a k n = subst (λ (is : List ℕ). Named p.handler.underway is l) (sym (same_other c p.queue k.well a.1)) n

named_after : (us : List Use) (p : Pair) (l : Option (List ℕ)) → AllAllowed us → Kept p → Naming p l → Naming (after us p) (last_message us p l)
unfolding after last_message
named_after [] p l a k n = n
named_after (u ∷ us) p l a k n = named_after us (used u p) (message_after u p l) a.1 (kept_used u p a.0 k) (named_used u p l a.0 k n)

pub request9_message : Request9Message
unfolding Request9Message NamedIn
request9_message o q n us s a = let k = kept_start o q n s in named_after us (pair (start n) q) none a k (named_none (pair (start n) q) none refl k)
