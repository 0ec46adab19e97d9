-- The next fragment leaves nothing undone, on any words: of the head that it looks at and chooses, the scheduler takes what is handed out. (The
-- definitions keep the words that the scheduler leaves and not whether it did.) Assumes nothing.
use Rattle.std.specs.Prelude.{ℕ, ◌≡◌, true, List}
use Rattle.queue_words.specs.declared.active.SchedulingParameters.{SchedulingParameters}
use Rattle.stream_scheduler.specs.Words.{accept_at}
use Rattle.stream_scheduler.specs.Anew.{accept_last_words}
use Rattle.queue_sending.specs.Choice.{look_ahead}
use Rattle.queue_sending.specs.Look as look

-- Bytes of the row `at` are handed out, or its last ones: neither is refused.
pub record Takes (ws : List ℕ) (at : ℕ) : Type 0 where
  pub part : (n : ℕ) → (accept_at ws at n).done ≡ true
  pub last : (id n bytes : ℕ) (p : SchedulingParameters) → (accept_last_words ws at id n bytes p).done ≡ true

-- Where a look chooses a head, after expired heads or none.
abbrev pub FragmentSettled : Type 0
FragmentSettled = (ws : List ℕ) (time at id row : ℕ) → look_ahead ws time ≡ look.Chosen at id row → Takes ws at
