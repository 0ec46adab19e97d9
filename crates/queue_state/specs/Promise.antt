-- What a call promises from good words: it is the model's step. Assumes nothing.
use Rattle.std.specs.Prelude.{ℕ, ◌≡◌, List, length}
use Rattle.queue_model.specs.Types.{Answer, refused, done, number, flag, ids, fragment, nothing_waits, filled, Outcome}
use Rattle.queue_model.specs.Answers.{answer_number, event_count}
use Rattle.queue_model.specs.Run as run
use Rattle.queue_streams.specs.Answers.{call_number, call_events}
use Rattle.queue_streams.specs.Events.{written}
use Rattle.queue_streams.specs.Call.{Call}
use Rattle.queue_streams.specs.Call.{Accepted, Refused}
use Rattle.queue_streams.specs.Number.{Number}
use Rattle.queue_streams.specs.Number as number_answer
use Rattle.queue_state.specs.Model.{model}
use Rattle.queue_state.specs.Good.{Good}

-- The answer of a call that writes k events: the refusal's number, or k.
abbrev pub call_of : Answer → ℕ → Call
call_of (refused n) k = Refused n
call_of done k = Accepted k
call_of (number m) k = Accepted k
call_of (flag b) k = Accepted k
call_of (ids l) k = Accepted k
call_of (fragment f) k = Accepted k
call_of nothing_waits k = Accepted k
call_of (filled bs n) k = Accepted k

-- What the model's call shows.
abbrev pub shown : run.Call → List ℕ → List ℕ → Outcome
shown c ws st = (run.step c (model ws st)).outcome

-- A call is the model's: from good words it leaves good words, which stand for the model's next queue, and gives the model's answer.
pub record Does (c : run.Call) (ws st : List ℕ) (a : Call) (ws' st' : List ℕ) : Type 0 where
  pub good : Good ws' st'
  pub next : model ws' st' ≡ (run.step c (model ws st)).next
  pub answer : a ≡ call_of (shown c ws st).answer (length (shown c ws st).events)

-- The same of a call with a lent list of events: the model's events, in order, from the list's start; the places past them as they were.
pub record Reports (c : run.Call) (ws st es : List ℕ) (a : Call) (ws' st' es' : List ℕ) : Type 0 where
  pub does : Does c ws st a ws' st'
  pub events : es' ≡ written es 0 (shown c ws st).events

-- "If an answer is an enum, a definition states this paper's number and values for each case of the enum. The promises use that definition." Of a call:
-- its number and how many events it tells are the model's.
pub record Tells (o : Outcome) (a : Call) : Type 0 where
  pub number : call_number a ≡ answer_number o.answer
  pub events : call_events a ≡ event_count o

-- A question: the model's answer.
abbrev pub number_of : Answer → Number
number_of (refused n) = number_answer.Refused n
number_of done = number_answer.Value 0
number_of (number m) = number_answer.Value m
number_of (flag b) = number_answer.Value 0
number_of (ids l) = number_answer.Value 0
number_of (fragment f) = number_answer.Value 0
number_of nothing_waits = number_answer.Value 0
number_of (filled bs n) = number_answer.Value 0
