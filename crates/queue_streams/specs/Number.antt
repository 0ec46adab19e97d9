-- What a question for a number answers. Assumes nothing.
use Rattle.std.specs.Prelude.{ℕ}

pub data Number : Type 0 where
  Value : ℕ → Number
  Refused : ℕ → Number
