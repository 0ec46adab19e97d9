-- The number and the values of the next fragment's answer are the model's: what follows from the answer itself. Assumes nothing.
use Prim.Native.Nat.{ℕ}
use mathlib.Core.Path.{◌≡◌, refl, ap, ◌∙◌}
use mathlib.Core.List.{List, map}
use lib.ListN.{length}
use Rattle.queue_model.specs.Types.{Answer, refused, done, number, flag, ids, fragment, nothing_waits, filled, Step}
use Rattle.queue_model.specs.Answers.{answer_number, answer_events, fragments_in}
use Rattle.queue_sending.specs.Data.{ProducedWith, produced_number, produced_events, produced_data}
use Rattle.linked_sending.specs.Meaning.{data_of, produced_of, Sends, TellsFragment}

number_of : (a : Answer) (k : ℕ) → produced_number (produced_of a k) ≡ answer_number a
number_of (refused n) k = refl
number_of done k = refl
number_of (number m) k = refl
number_of (flag b) k = refl
number_of (ids l) k = refl
number_of (fragment f) k = refl
number_of nothing_waits k = refl
number_of (filled bs n) k = refl

events_of : (a : Answer) (k : ℕ) → produced_events (produced_of a k) ≡ answer_events a k
events_of (refused n) k = refl
events_of done k = refl
events_of (number m) k = refl
events_of (flag b) k = refl
events_of (ids l) k = refl
events_of (fragment f) k = refl
events_of nothing_waits k = refl
events_of (filled bs n) k = refl

data_of_lem : (a : Answer) (k : ℕ) → produced_data (produced_of a k) ≡ map data_of (fragments_in a)
data_of_lem (refused n) k = refl
data_of_lem done k = refl
data_of_lem (number m) k = refl
data_of_lem (flag b) k = refl
data_of_lem (ids l) k = refl
data_of_lem (fragment f) k = refl
data_of_lem nothing_waits k = refl
data_of_lem (filled bs n) k = refl

pub tells_of : {s : Step} {st es bs : List ℕ} {p : ProducedWith} → Sends s st es bs p → TellsFragment s.outcome p.answer
tells_of {s} d = record {
  number = ap produced_number d.answer ∙ number_of s.outcome.answer (length s.outcome.events);
  events = ap produced_events d.answer ∙ events_of s.outcome.answer (length s.outcome.events);
  data_are = ap produced_data d.answer ∙ data_of_lem s.outcome.answer (length s.outcome.events);
}
