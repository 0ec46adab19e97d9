-- What the call does next, once the expired heads are passed over. Assumes nothing.
use Rattle.std.specs.Prelude.{ℕ, ◌≡◌, Bool, true, false, List, ltb}
use Rattle.queue_words.specs.Flags.{pick}
use Rattle.stream_scheduler.specs.Own.{HasRow}
use Rattle.queue_streams.specs.Call.{Call}
use Rattle.queue_streams.specs.Call as call
use Rattle.queue_sending.specs.Choice.{look_ahead}
use Rattle.queue_sending.specs.Data.{ProducedWith, produced_with, refused_with}
use Rattle.queue_sending.specs.Fragment.{chosen_code, handed_out_words}
use Rattle.queue_sending.specs.Produce.{refusal}
use Rattle.queue_sending.specs.Look.{Look}
use Rattle.queue_sending.specs.Look as look
use Rattle.queue_sending.specs.Produced as produced
use Rattle.queue_sending.specs.NextStep.{Next}
use Rattle.queue_sending.specs.NextStep as next

-- What doing it leaves.
abbrev pub sent_next : List ℕ → List ℕ → List ℕ → List ℕ → ℕ → Next → ProducedWith
sent_next ws st es bs size (next.Refused code) = refused_with code ws es bs
sent_next ws st es bs size (next.Nothing k) = produced_with (produced.Nothing k) ws es bs
sent_next ws st es bs size (next.Chosen k at id row) = handed_out_words ws st es bs size k at id row

-- whether it is a refusal
abbrev pub refused_next : Next → Bool
refused_next (next.Refused code) = true
refused_next (next.Nothing k) = false
refused_next (next.Chosen k at id row) = false

-- What follows a look after k events, by reading only: a head that is still expired gets 16. The two numbers behind the words are the lengths of the store and of the
-- fragment buffer.
abbrev pub next_found : List ℕ → ℕ → ℕ → ℕ → ℕ → Look → Next
next_found ws len room size k look.Nothing = pick (ltb 2305 k) (next.Refused 16) (next.Nothing k)
next_found ws len room size k look.Broken = next.Refused 16
next_found ws len room size k (look.Expired id row) = next.Refused 16
next_found ws len room size k (look.Chosen at id row) =
    pick (ltb 0 (chosen_code ws len room size k at row)) (next.Refused (chosen_code ws len room size k at row)) (next.Chosen k at id row)

abbrev pub next_passed : List ℕ → ℕ → ℕ → ℕ → ℕ → Call → Next
next_passed ws len room time size (call.Accepted k) = next_found ws len room size k (look_ahead ws time)
next_passed ws len room time size (call.Refused code) = next.Refused code

-- a head is handed out from a row that the scheduler has
abbrev pub FromRow : List ℕ → Next → Type 0
FromRow ws (next.Refused code) = Unit {0}
FromRow ws (next.Nothing k) = Unit {0}
FromRow ws (next.Chosen k at id row) = HasRow ws at

-- What is next leads to p: doing it leaves p, it says whether p is a refusal, and the row that it hands out from is one of the scheduler's.
pub record Leads (n : Next) (ws st es bs : List ℕ) (size : ℕ) (p : ProducedWith) : Type 0 where
  pub sends : sent_next ws st es bs size n ≡ p
  pub tells : refused_next n ≡ refusal p.answer
  pub in_row : FromRow ws n
