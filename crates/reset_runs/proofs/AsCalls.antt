-- The handler's calls as calls of the queue's (specs/AsCalls): a request takes the ready ids or nothing, a response is a commit, a rollback or nothing.
-- Assumes nothing.
use Prim.Native.Nat.{ℕ}
use mathlib.Core.Path.{◌≡◌, refl, sym, ap, ◌∙◌}
use mathlib.Core.Bool.{Bool, true, false}
use mathlib.Core.List.{List, [], ◌∷◌, ◌++◌}
use lib.Dec.{eqb, ltb}
use lib.ListN.{length}
use Rattle.std.specs.Prelude.{if◌then◌else◌}
use Rattle.queue_streams.specs.Restart.{reopen}
use Rattle.queue_streams.specs.Call.{Call}
use Rattle.queue_streams.specs.Call as call
use Rattle.queue_streams.specs.Number.{Number}
use Rattle.queue_streams.specs.Number as number
use Rattle.queue_restarts.specs.Ready.{ready, ready_count}
use Rattle.queue_restarts.specs.Reset.{reset_queue}
use Rattle.queue_runs.specs.Calls as calls
use Rattle.queue_runs.specs.Run as run
use Rattle.queue_runs.specs.Run.{State, state, step}
use Rattle.queue_runs.specs.Meaning.{AllTyped}
use Rattle.reset_model.specs.Wire as wire
use Rattle.reset_model.specs.Wire.{request_size}
use Rattle.reset_wire.specs.Reading.{response_of}
use Rattle.reset_wire.specs.Response.{Response}
use Rattle.reset_wire.specs.Response as response
use Rattle.stream_reset_handler.specs.Underway.{Underway}
use Rattle.std.specs.Prelude.{Some, None}
use Rattle.stream_reset_handler.specs.RequestAnswer as making
use Rattle.stream_reset_handler.specs.ResponseAnswer as receiving
use Rattle.stream_reset_handler.specs.Handler.{is_underway}
use Rattle.stream_reset_handler.specs.Making.{make_request, request_in, request_for, written_for, made_with, told}
use Rattle.stream_reset_handler.specs.Receiving.{HandledWith, handled_with, handled, handle_response, respond_to, finished_by, finished, ignored_in, reset_by}
use Rattle.reset_runs.specs.Uses.{Use, Allowed, Pair, ready_in, ends_in, used, after}
use Rattle.reset_runs.specs.Uses as uses
use Rattle.reset_runs.specs.AsCalls.{HandlerAsCalls}

-- Words that some calls leave.
record Leaves (s : State) (ws' : List ℕ) : Type 0 where
  by : List calls.Call
  by_typed : AllTyped by
  left : state ws' s.store ≡ run.after by s

nothing : (s : State) → Leaves s s.words
unfolding run.after
nothing s = record { by = []; by_typed = tt; left = refl }

takes_ids : (s : State) → Leaves s (ready s.words).next
unfolding run.after step
takes_ids s = record { by = calls.ready_ids ∷ []; by_typed = (tt, tt); left = refl }

reopens : (z : Bool) (s : State) → Leaves s (reopen z s.words).next
unfolding run.after step
reopens true s = record { by = calls.commit ∷ []; by_typed = (tt, tt); left = refl }
reopens false s = record { by = calls.rollback ∷ []; by_typed = (tt, tt); left = refl }

resets : (s : State) → Leaves s (reset_queue s.words).next
unfolding run.after step
resets s = record { by = calls.reset ∷ []; by_typed = (tt, tt); left = refl }

module _ (out : List ℕ) (response_number last_tsn : ℕ) (p : Pair) where
  abbrev ws : List ℕ
  ws = p.queue.words

  for_value : (k : ℕ) (a b : Bool)
      → Leaves p.queue (if a then made_with (told making.NoneReady p.handler) ws out else if b then made_with (told (making.Refused 26) p.handler) ws out else written_for k (ready_in ws) p.handler out response_number last_tsn).words
  for_value k true b = nothing p.queue
  for_value k false true = nothing p.queue
  for_value k false false = takes_ids p.queue

  for_count : (c : Number) → Leaves p.queue (request_for c (ready_in ws) ws p.handler out response_number last_tsn).words
  for_count (number.Refused k) = nothing p.queue
  for_count (number.Value k) = for_value k (eqb k 0) (ltb (length out) (request_size k))

  for_underway : (u : Underway) → Leaves p.queue (request_in u (ready_in ws) ws p.handler out response_number last_tsn).words
  for_underway (Some k) = nothing p.queue
  for_underway None = for_count (ready_count ws)

finishes : (p : Pair) (z : Bool) (a : Call) → Leaves p.queue (finished_by z a (reopen z p.queue.words).next p.handler).words
finishes p z (call.Accepted k) = reopens z p.queue
finishes p z (call.Refused k) = reopens z p.queue

either : (s : State) (b : Bool) (x y : HandledWith) → Leaves s x.words → Leaves s y.words → Leaves s (if b then x else y).words
either s true x y f g = f
either s false x y f g = g

responds : (p : Pair) (r : Response) → Leaves p.queue (respond_to r (ends_in p.queue.words) p.queue.words p.handler).words
responds p (response.Commits k) =
    either p.queue (is_underway p.handler k) (finished true (ends_in p.queue.words).commit p.handler) (ignored_in p.queue.words p.handler) (finishes p true (reopen true p.queue.words).answer) (nothing p.queue)
responds p (response.RollsBack k) =
    either p.queue (is_underway p.handler k) (finished false (ends_in p.queue.words).rollback p.handler) (ignored_in p.queue.words p.handler) (finishes p false (reopen false p.queue.words).answer) (nothing p.queue)
responds p (response.KeepsWaiting k) =
    either p.queue (is_underway p.handler k) (handled_with (handled receiving.StillWaiting p.handler) p.queue.words) (ignored_in p.queue.words p.handler) (nothing p.queue) (nothing p.queue)
responds p response.Malformed = nothing p.queue

restarts : (p : Pair) (a : Call) → Leaves p.queue (reset_by a (reset_queue p.queue.words).next p.handler).words
restarts p (call.Accepted k) = resets p.queue
restarts p (call.Refused k) = resets p.queue

-- One use.
record OneUse (u : Use) (p : Pair) : Type 0 where
  one_by : List calls.Call
  one_typed : AllTyped one_by
  one_same : (used u p).queue ≡ run.after one_by p.queue

one_use : (u : Use) (p : Pair) → Allowed u → OneUse u p
unfolding used make_request handle_response run.after
one_use (uses.request out r t) p a = let l = for_underway out r t p p.handler.underway in record { one_by = l.by; one_typed = l.by_typed; one_same = l.left }
one_use (uses.response bs) p a = let l = responds p (response_of (wire.read_response bs)) in record { one_by = l.by; one_typed = l.by_typed; one_same = l.left }
one_use uses.reset p a = let l = restarts p (reset_queue p.queue.words).answer in record { one_by = l.by; one_typed = l.by_typed; one_same = l.left }
one_use (uses.other c) p a = record { one_by = c ∷ []; one_typed = (a.0, tt); one_same = refl }

after_both : (cs ds : List calls.Call) (s : State) → run.after (cs ++ ds) s ≡ run.after ds (run.after cs s)
unfolding run.after
after_both [] ds s = refl
after_both (c ∷ cs) ds s = after_both cs ds (step c s).next

both_typed : (cs ds : List calls.Call) → AllTyped cs → AllTyped ds → AllTyped (cs ++ ds)
both_typed [] ds a b = b
both_typed (c ∷ cs) ds a b = (a.0, both_typed cs ds a.1 b)

pub handler_as_calls : HandlerAsCalls
unfolding after run.after
handler_as_calls [] p a = record { calls = []; typed = tt; same = refl }
handler_as_calls (u ∷ us) p a =
    let o = one_use u p a.0 in let r = handler_as_calls us (used u p) a.1 in
    record {
      calls = o.one_by ++ r.calls;
      typed = both_typed o.one_by r.calls o.one_typed r.typed;
      same = r.same ∙ ap (run.after r.calls) o.one_same ∙ sym (after_both o.one_by r.calls p.queue);
    }
