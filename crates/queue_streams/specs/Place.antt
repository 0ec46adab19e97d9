-- Where the stream of an id is: in a row, or not known and then the position in the order of ids at which it would be; refused where it would be the 257th, or
-- a place is outside its table. Assumes nothing.
use Rattle.std.specs.Prelude.{ℕ}

pub data Place : Type 0 where
  Row : ℕ → Place
  New : ℕ → Place
  Refused : ℕ → Place
