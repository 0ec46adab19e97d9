-- The job closer's theorem (request 3/13) over any calls, fillings among them (5/13). Assumes nothing.
use Rattle.std.specs.Prelude.{ℕ, ◌≤◌, ◌≡◌, false, List, [], ◌∷◌, ◌++◌, length}
use Rattle.queue_model.specs.Logic.{any}
use Rattle.queue_model.specs.Types.{Item}
use Rattle.queue_model.specs.Streams.{stream_at}
use Rattle.queue_model.specs.Closing.{half_sent}
use Rattle.queue_questions.specs.Questions.{total_of}
use Rattle.queue_sending.specs.Produced as produced
use Rattle.packets.specs.declared.packet.Packet.{Packet}
use Rattle.packets.specs.PacketFilled as packet
use Rattle.queue_runs.specs.Calls.{Call, produce, fill, close, reset, Typed, sent, filled}
use Rattle.queue_runs.specs.Run.{State, step, after}
use Rattle.queue_runs.specs.Meaning.{queue_of, AllTyped}
use Rattle.queue_runs.specs.Creation.{Arguments}
use Rattle.queue_runs.specs.Refusals.{refusal}
use Rattle.queue_runs.specs.Closing.{parts, Ready, CourseOf, Closes}
use Rattle.queue_fillings.specs.Expanded.{expanded}

-- Any calls but a whole-queue reset, as in queue_runs: specs/Closing.
abbrev pub NoReset : List Call → Type 0
NoReset [] = Unit {0}
NoReset (c ∷ cs) = (c ≡ reset → ⊥) × NoReset cs

-- Next fragments and fillings alone, none of them refused.
pub data Asks (s : State) : Call → Type 0 where
  asks : (es bs : List ℕ) (time size : ℕ) → refusal (step (produce es bs time size) s).shows.answer ≡ false → Asks s (produce es bs time size)
  packs : (es bs : List ℕ) (time : ℕ) (p : Packet) → refusal (step (fill es bs time p) s).shows.answer ≡ false → Asks s (fill es bs time p)

abbrev pub AllAsk : List Call → State → Type 0
AllAsk [] s = Unit {0}
AllAsk (c ∷ cs) s = Asks s c × AllAsk cs (step c s).next

-- What holds of the queue after an accepted closing of stream k, which had these messages; as `Closed` of queue_runs:
-- after any calls it goes on with the half-sent one, or that one is over and the stream is ready; the fragments of a filling are those of its separate calls;
-- it is ready as soon as a next fragment says that nothing waits, or a filling writes no chunk;
-- and so it is after as many next fragments or fillings in a row as bytes wait in the queue.
pub record Closed (k : ℕ) (is : List Item) (s : State) : Type 0 where
  pub course : (cs : List Call) → AllTyped cs → NoReset cs → CourseOf k (half_sent is) s (expanded cs s)
  pub none_waits : (cs : List Call) (es bs : List ℕ) (time size n : ℕ) → AllTyped cs → NoReset cs → Typed (produce es bs time size)
      → (step (produce es bs time size) (after cs s)).shows.answer ≡ sent (produced.Nothing n) → Ready k s (cs ++ produce es bs time size ∷ [])
  pub none_filled : (cs : List Call) (es bs : List ℕ) (time : ℕ) (p : Packet) (n : ℕ) → AllTyped cs → NoReset cs → Typed (fill es bs time p)
      → (step (fill es bs time p) (after cs s)).shows.answer ≡ filled (packet.Filled n 0 0) → Ready k s (cs ++ fill es bs time p ∷ [])
  pub never_hangs : (cs ps : List Call) → AllTyped cs → NoReset cs → AllTyped ps → AllAsk ps (after cs s) → total_of (after cs s).words ≤ length ps → Ready k s (cs ++ ps)

unfoldable pub Request3Packets : Type 0
unfolding parts any expanded
Request3Packets = (a : Arguments) (len : ℕ) (es : List ℕ) (k : ℕ) (s : State) → Closes a len es k s → Closed k (stream_at (queue_of s) k).items (step (close es k) s).next
