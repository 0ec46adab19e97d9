-- The number and the values of a filling's answer are the model's: what follows from the answer itself. Assumes nothing.
use Prim.Native.Nat.{ℕ}
use mathlib.Core.Path.{◌≡◌, refl, ap, ◌∙◌}
use mathlib.Core.List.{List}
use lib.ListN.{length}
use Rattle.queue_model.specs.Types.{Answer, refused, done, number, flag, ids, fragment, nothing_waits, filled, Step}
use Rattle.queue_model.specs.Answers.{answer_number, answer_events}
use Rattle.packets.specs.Filling.{FilledWith, filled_number, filled_events, filled_bytes, filled_chunks}
use Rattle.linked_packets.specs.Meaning.{filled_of, packet_length, packet_chunks, Fills, TellsPacket}

number_of : (a : Answer) (k : ℕ) → filled_number (filled_of a k) ≡ answer_number a
number_of (refused n) k = refl
number_of done k = refl
number_of (number m) k = refl
number_of (flag b) k = refl
number_of (ids l) k = refl
number_of (fragment f) k = refl
number_of nothing_waits k = refl
number_of (filled bs n) k = refl

events_of : (a : Answer) (k : ℕ) → filled_events (filled_of a k) ≡ answer_events a k
events_of (refused n) k = refl
events_of done k = refl
events_of (number m) k = refl
events_of (flag b) k = refl
events_of (ids l) k = refl
events_of (fragment f) k = refl
events_of nothing_waits k = refl
events_of (filled bs n) k = refl

bytes_of : (a : Answer) (k : ℕ) → filled_bytes (filled_of a k) ≡ packet_length a
bytes_of (refused n) k = refl
bytes_of done k = refl
bytes_of (number m) k = refl
bytes_of (flag b) k = refl
bytes_of (ids l) k = refl
bytes_of (fragment f) k = refl
bytes_of nothing_waits k = refl
bytes_of (filled bs n) k = refl

chunks_of : (a : Answer) (k : ℕ) → filled_chunks (filled_of a k) ≡ packet_chunks a
chunks_of (refused n) k = refl
chunks_of done k = refl
chunks_of (number m) k = refl
chunks_of (flag b) k = refl
chunks_of (ids l) k = refl
chunks_of (fragment f) k = refl
chunks_of nothing_waits k = refl
chunks_of (filled bs n) k = refl

pub tells_of : {s : Step} {st es bs : List ℕ} {p : FilledWith} → Fills s st es bs p → TellsPacket s.outcome p.answer
tells_of {s} f = record {
  number = ap filled_number f.answer ∙ number_of s.outcome.answer (length s.outcome.events);
  events = ap filled_events f.answer ∙ events_of s.outcome.answer (length s.outcome.events);
  bytes = ap filled_bytes f.answer ∙ bytes_of s.outcome.answer (length s.outcome.events);
  chunks = ap filled_chunks f.answer ∙ chunks_of s.outcome.answer (length s.outcome.events);
}
