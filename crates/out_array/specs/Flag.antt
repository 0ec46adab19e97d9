-- A flag as a host gives it. Assumes nothing.
use Rattle.std.specs.Prelude.{ℕ, Bool, not, eqb}

-- A flag: 0 for no, anything else for yes.
abbrev pub is_yes : ℕ → Bool
is_yes n = not (eqb n 0)
