-- What a look at the scheduler's choice finds: nothing waits; the state is broken; an expired head, by its stream's id and row; a head to send, by the
-- scheduler's row, its stream's id and row. Assumes nothing.
use Rattle.std.specs.Prelude.{ℕ}

pub data Look : Type 0 where
  Nothing : Look
  Broken : Look
  Expired : ℕ → ℕ → Look
  Chosen : ℕ → ℕ → ℕ → Look
