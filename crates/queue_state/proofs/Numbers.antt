-- The number and the values of an answer are the model's: what follows from the answer itself. Assumes nothing.
use Prim.Native.Nat.{ℕ}
use mathlib.Core.Path.{◌≡◌, refl, ap, ◌∙◌}
use mathlib.Core.List.{List}
use lib.ListN.{length}
use Rattle.queue_model.specs.Types.{Answer, refused, done, number, flag, ids, fragment, nothing_waits, filled}
use Rattle.queue_model.specs.Answers.{answer_number, answer_value, answer_events}
use Rattle.queue_model.specs.Run as run
use Rattle.queue_streams.specs.Answers.{call_number, call_events, number_number, number_value}
use Rattle.queue_streams.specs.Call.{Call}
use Rattle.queue_state.specs.Promise.{call_of, number_of, shown, Does, Tells}

call_number_lem : (a : Answer) (k : ℕ) → call_number (call_of a k) ≡ answer_number a
call_number_lem (refused n) k = refl
call_number_lem done k = refl
call_number_lem (number m) k = refl
call_number_lem (flag b) k = refl
call_number_lem (ids l) k = refl
call_number_lem (fragment f) k = refl
call_number_lem nothing_waits k = refl
call_number_lem (filled bs n) k = refl

call_events_lem : (a : Answer) (k : ℕ) → call_events (call_of a k) ≡ answer_events a k
call_events_lem (refused n) k = refl
call_events_lem done k = refl
call_events_lem (number m) k = refl
call_events_lem (flag b) k = refl
call_events_lem (ids l) k = refl
call_events_lem (fragment f) k = refl
call_events_lem nothing_waits k = refl
call_events_lem (filled bs n) k = refl

pub number_number_lem : (a : Answer) → number_number (number_of a) ≡ answer_number a
number_number_lem (refused n) = refl
number_number_lem done = refl
number_number_lem (number m) = refl
number_number_lem (flag b) = refl
number_number_lem (ids l) = refl
number_number_lem (fragment f) = refl
number_number_lem nothing_waits = refl
number_number_lem (filled bs n) = refl

pub number_value_lem : (a : Answer) → number_value (number_of a) ≡ answer_value a
number_value_lem (refused n) = refl
number_value_lem done = refl
number_value_lem (number m) = refl
number_value_lem (flag b) = refl
number_value_lem (ids l) = refl
number_value_lem (fragment f) = refl
number_value_lem nothing_waits = refl
number_value_lem (filled bs n) = refl

-- Of a call.
pub tells : {c : run.Call} {ws st : List ℕ} {a : Call} {ws' st' : List ℕ} → Does c ws st a ws' st' → Tells (shown c ws st) a
tells {c} {ws} {st} d = record {
  number = ap call_number d.answer ∙ call_number_lem (shown c ws st).answer (length (shown c ws st).events);
  events = ap call_events d.answer ∙ call_events_lem (shown c ws st).answer (length (shown c ws st).events);
}
