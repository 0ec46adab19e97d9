-- The number of the request underway, if there is one. Assumes nothing.
use Rattle.std.specs.Prelude.{ℕ, Option}

abbrev pub Underway : Type 0
Underway = Option ℕ
