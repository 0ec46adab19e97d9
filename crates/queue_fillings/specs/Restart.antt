-- What heads see after a strict reset (request 6/13), over any calls, fillings among them: the fragments of a filling are those of its separate calls.
-- Assumes nothing.
use Rattle.std.specs.Prelude.{ℕ, ◌≡◌, false, List, [], ◌∷◌}
use Rattle.queue_words.specs.declared.header.RestartRule.TheVariants.{Strict}
use Rattle.queue_streams.specs.Call as call
use Rattle.queue_runs.specs.Calls.{Call, reset, restore, called}
use Rattle.queue_runs.specs.Run.{State, step}
use Rattle.queue_runs.specs.Meaning.{AllTyped}
use Rattle.queue_runs.specs.Creation.{Arguments}
use Rattle.queue_runs.specs.Demand3.{Reached}
use Rattle.queue_runs.specs.Refusals.{refusal}
use Rattle.queue_runs.specs.Restart.{fragments, FirstAfresh}
use Rattle.queue_fillings.specs.Expanded.{apart}

-- Any calls, but no accepted restoring, as in queue_runs: specs/Restart.
abbrev pub NotRestored : Call → State → Type 0
NotRestored c s = (time : ℕ) (image : List ℕ) → c ≡ restore time image → refusal (step c s).shows.answer ≡ false → ⊥

abbrev pub NoneRestored : List Call → State → Type 0
NoneRestored [] s = Unit {0}
NoneRestored (c ∷ cs) s = NotRestored c s × NoneRestored cs (step c s).next

-- The reset is accepted, and the first fragment of stream k after it starts afresh, in a packet or by itself.
pub record Restarts (k : ℕ) (cs : List Call) (s : State) : Type 0 where
  pub accepted : (step reset s).shows.answer ≡ called (call.Accepted 0)
  pub starts : FirstAfresh (fragments k (apart cs (step reset s).next))

unfoldable pub Request6Packets : Type 0
unfolding fragments apart
Request6Packets = (a : Arguments) (len : ℕ) (s : State) (cs : List Call) (k : ℕ) → a.rule ≡ Strict → Reached a len s → AllTyped cs → NoneRestored cs (step reset s).next → Restarts k cs s
