-- What receiving a response and the whole-queue reset promise. Assumes nothing.
use Rattle.std.specs.Prelude.{ℕ, ◌≡◌, Bool, true, false, List}
use Rattle.std.specs.Prelude.{if◌then◌else◌}
use Rattle.send_queue.specs.Call.{Call}
use Rattle.send_queue.specs.Call as call
use Rattle.send_queue.specs.Queue as state
use Rattle.send_queue.specs.Queue.{Good}
use Rattle.send_queue.specs.Restarts.{CommitMeets, RollbackMeets, ResetMeets}
use Rattle.reset_model.specs.Wire as wire
use Rattle.reset_model.specs.Handler as model
use Rattle.reset_wire.specs.Reading.{response_of}
use Rattle.reset_wire.specs.Response.{Response}
use Rattle.reset_wire.specs.Response as response
use Rattle.stream_reset_handler.specs.declared.handler.StreamResetHandler.{StreamResetHandler}
use Rattle.stream_reset_handler.specs.ResponseAnswer.{ResponseAnswer}
use Rattle.stream_reset_handler.specs.ResponseAnswer.{Ignored, Committed, RolledBack, StillWaiting, Refused}
use Rattle.stream_reset_handler.specs.declared.receiving.ResponseStep.{ResponseStep}
use Rattle.stream_reset_handler.specs.declared.receiving.ResponseStep.TheVariants as step
use Rattle.stream_reset_handler.specs.HandledResponse.{HandledResponse}
use Rattle.stream_reset_handler.specs.QueueReset.{QueueReset}
use Rattle.stream_reset_handler.specs.Handler.{handler_of, is_underway, ended_as}

-- ------------------------------------------------------------------ on any words

-- What a call of the queue's gives on these words: its answer and the words after it.
pub record Outcome : Type 0 where
  pub answer : Call
  pub next : List ℕ

pub record HandledWith : Type 0 where
  pub handled_as : HandledResponse
  pub words : List ℕ

abbrev pub handled_with : HandledResponse → List ℕ → HandledWith
handled_with a ws = record { handled_as = a; words = ws }

abbrev pub handled : ResponseAnswer → StreamResetHandler → HandledResponse
handled a h = record { answer = a; handler = h }

abbrev pub finish_answer : Bool → ResponseAnswer
finish_answer true = Committed
finish_answer false = RolledBack

-- The request ends with the queue's commit (true) or rollback; where that is refused, it goes on and the refusal is passed on.
abbrev pub finished_by : Bool → Call → List ℕ → StreamResetHandler → HandledWith
finished_by zeroed (call.Accepted k) ws' h = handled_with (handled (finish_answer zeroed) (ended_as h)) ws'
finished_by zeroed (call.Refused n) ws' h = handled_with (handled (Refused n) h) ws'

abbrev pub finished : Bool → Outcome → StreamResetHandler → HandledWith
finished zeroed o h = finished_by zeroed o.answer o.next h

-- "A response to another request number, or with none underway, changes nothing."
abbrev pub ignored_in : List ℕ → StreamResetHandler → HandledWith
ignored_in ws h = handled_with (handled Ignored h) ws

-- What commit and rollback give on these words.
pub record Ends : Type 0 where
  pub commit : Outcome
  pub rollback : Outcome

-- "Result 0 or 1 commits, 2 to 5 roll back, 6 keeps the same request waiting". 27: "received bytes break this layout".
abbrev pub respond_to : Response → Ends → List ℕ → StreamResetHandler → HandledWith
respond_to (response.Commits n) q ws h = if is_underway h n then finished true q.commit h else ignored_in ws h
respond_to (response.RollsBack n) q ws h = if is_underway h n then finished false q.rollback h else ignored_in ws h
respond_to (response.KeepsWaiting n) q ws h = if is_underway h n then handled_with (handled StillWaiting h) ws else ignored_in ws h
respond_to response.Malformed q ws h = handled_with (handled (Refused 27) h) ws

unfoldable pub handle_response : Ends → List ℕ → StreamResetHandler → List ℕ → HandledWith
handle_response q ws h bs = respond_to (response_of (wire.read_response bs)) q ws h

-- The same as what the response asks for, before the queue is called.
abbrev pub if_underway : StreamResetHandler → ℕ → ResponseStep → ResponseStep
if_underway h n s = if is_underway h n then s else step.Ignore

abbrev pub step_of : Response → StreamResetHandler → ResponseStep
step_of (response.Commits n) h = if_underway h n step.Commit
step_of (response.RollsBack n) h = if_underway h n step.RollBack
step_of (response.KeepsWaiting n) h = if_underway h n step.Wait
step_of response.Malformed h = step.Refuse

-- That these are what the queue's contracts give; they determine it.
pub record IsEnds (ws : List ℕ) (q : Ends) : Type 0 where
  pub commits : CommitMeets ws q.commit.answer q.commit.next
  pub rolls_back : RollbackMeets ws q.rollback.answer q.rollback.next

-- "Whole-queue reset goes through it and ends the request."
pub record ResetWith : Type 0 where
  pub reset_as : QueueReset
  pub words : List ℕ

abbrev pub reset_with : QueueReset → List ℕ → ResetWith
reset_with a ws = record { reset_as = a; words = ws }

abbrev pub reset_by : Call → List ℕ → StreamResetHandler → ResetWith
reset_by (call.Accepted k) ws' h = reset_with (record { answer = call.Accepted k; handler = ended_as h }) ws'
reset_by (call.Refused n) ws' h = reset_with (record { answer = call.Refused n; handler = h }) ws'

-- ------------------------------------------------------------------ on the words of a queue, the model's

abbrev pub response_answer_of : model.Answer → ResponseAnswer
response_answer_of (model.refused n) = Refused n
response_answer_of model.none_ready = Ignored
response_answer_of (model.written bs) = Ignored
response_answer_of model.ignored = Ignored
response_answer_of model.committed = Committed
response_answer_of model.rolled_back = RolledBack
response_answer_of model.still_waiting = StillWaiting
response_answer_of model.was_reset = Ignored

pub record Handles (e : model.Effect) (st : List ℕ) (a : HandledResponse) (ws' : List ℕ) : Type 0 where
  pub good : Good ws' st
  pub next : state.model ws' st ≡ e.next
  pub answer : a.answer ≡ response_answer_of e.answer
  pub handler : a.handler ≡ handler_of e.handler

abbrev pub verdict_for : Bool → wire.Verdict
verdict_for true = wire.commits
verdict_for false = wire.rolls_back

-- The queue's contract of commit (true) or rollback.
abbrev pub FinishedAs : Bool → List ℕ → Outcome → Type 0
FinishedAs true ws o = CommitMeets ws o.answer o.next
FinishedAs false ws o = RollbackMeets ws o.answer o.next

-- Ending the request underway.
pub record FinishMeets (zeroed : Bool) (ws : List ℕ) (h : StreamResetHandler) (a : HandledResponse) (ws' : List ℕ) : Type 0 where
  pub words : (o : Outcome) → FinishedAs zeroed ws o → handled_with a ws' ≡ finished zeroed o h
  pub model : (st : List ℕ) → Good ws st → (p : model.Handler) → h ≡ handler_of p → Handles (model.decided (verdict_for zeroed) p (state.model ws st)) st a ws'

-- Receiving bytes: on any words what `handle_response` says of what the queue's calls give there; on the words of a queue the model's step.
pub record HandleMeets (ws : List ℕ) (h : StreamResetHandler) (bs : List ℕ) (a : HandledResponse) (ws' : List ℕ) : Type 0 where
  pub words : (q : Ends) → IsEnds ws q → handled_with a ws' ≡ handle_response q ws h bs
  pub model : (st : List ℕ) → Good ws st → (p : model.Handler) → h ≡ handler_of p → Handles (model.handle_response bs p (state.model ws st)) st a ws'

abbrev pub reset_answer_of : model.Answer → Call
reset_answer_of (model.refused n) = call.Refused n
reset_answer_of model.none_ready = call.Accepted 0
reset_answer_of (model.written bs) = call.Accepted 0
reset_answer_of model.ignored = call.Accepted 0
reset_answer_of model.committed = call.Accepted 0
reset_answer_of model.rolled_back = call.Accepted 0
reset_answer_of model.still_waiting = call.Accepted 0
reset_answer_of model.was_reset = call.Accepted 0

pub record Restarts (e : model.Effect) (st : List ℕ) (a : QueueReset) (ws' : List ℕ) : Type 0 where
  pub good : Good ws' st
  pub next : state.model ws' st ≡ e.next
  pub answer : a.answer ≡ reset_answer_of e.answer
  pub handler : a.handler ≡ handler_of e.handler

pub record ResetHandlerMeets (ws : List ℕ) (h : StreamResetHandler) (a : QueueReset) (ws' : List ℕ) : Type 0 where
  pub words : (o : Outcome) → ResetMeets ws o.answer o.next → reset_with a ws' ≡ reset_by o.answer o.next h
  pub model : (st : List ℕ) → Good ws st → (p : model.Handler) → h ≡ handler_of p → Restarts (model.whole_reset p (state.model ws st)) st a ws'
