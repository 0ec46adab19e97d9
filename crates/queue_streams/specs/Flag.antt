-- What a question for yes or no answers. Assumes nothing.
use Rattle.std.specs.Prelude.{ℕ, Bool}

pub data Flag : Type 0 where
  Value : Bool → Flag
  Refused : ℕ → Flag
