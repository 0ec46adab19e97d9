-- Passing over the expired heads of a queue that its own calls alone have changed. Assumes nothing.
use Rattle.std.specs.Prelude.{ℕ, ◌+◌, ◌≤◌, ◌≡◌, List, length}
use Rattle.queue_words.specs.Header.{totals_at}
use Rattle.queue_model.proofs.Invariant.Events.{potential}
use Rattle.queue_streams.specs.Events.{event_words}
use Rattle.queue_sending.specs.Choice.{look_ahead}
use Rattle.queue_sending.specs.Produce.{pass_over_words}
use Rattle.queue_sending.specs.Look.{Look}
use Rattle.queue_sending.specs.Look as look
use Rattle.queue_state.specs.Model.{model}
use Rattle.queue_state.specs.Good.{Good}
use Rattle.owned_sending.specs.declared.passing.Turn.{Turn}
use Rattle.owned_sending.specs.declared.passing.Turn.TheVariants as turn

-- Words and store are those of a queue, k events are written, and all that the queue can still report fits the list of 2,305 places.
pub record Payable (ws st es : List ℕ) (k : ℕ) : Type 0 where
  pub good : Good ws st
  pub paid : k + potential (model ws st) ≤ 2305
  pub places : event_words ≤ length es

-- How many events are written where it ends, and what a look finds there.
abbrev pub count_of : Turn → ℕ
count_of (turn.Nothing k) = k
count_of (turn.Head k at id row) = k

abbrev pub found_of : Turn → Look
found_of (turn.Nothing k) = look.Nothing
found_of (turn.Head k at id row) = look.Chosen at id row

-- From ws and es after k events it ends at us and vs: a queue still; nothing waits, or the head chosen has not expired; and what the definition leaves from there on, for any
-- buffer and size, is what it leaves from the start on.
pub record PassedTo (ws st es : List ℕ) (time k : ℕ) (r : Turn) (us vs : List ℕ) : Type 0 where
  pub ready : Payable us st vs (count_of r)
  pub looked : found_of r ≡ look_ahead us time
  pub same : (bs : List ℕ) (size : ℕ) → pass_over_words (totals_at us).waiting us st vs bs time size (count_of r) ≡ pass_over_words (totals_at ws).waiting ws st es bs time size k
