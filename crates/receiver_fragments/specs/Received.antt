-- What receiving a chunk answers, in document 02's numbers: refused, a repeat, or accepted. Assumes nothing.
use Rattle.std.specs.Prelude.{ℕ}

pub data Received : Type 0 where
  Refused : ℕ → Received
  Repeated : Received
  Accepted : Received
