-- What the call does next, in document 01's numbers: it is refused; it says that nothing waits; or it hands out from a head, by the scheduler's row, its
-- stream's id and row. The last two after so many events. Assumes nothing.
use Rattle.std.specs.Prelude.{ℕ}

pub data Next : Type 0 where
  Refused : ℕ → Next
  Nothing : ℕ → Next
  Chosen : ℕ → ℕ → ℕ → ℕ → Next
