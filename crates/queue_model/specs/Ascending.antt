-- Numbers in ascending order, none twice. Assumes nothing.
use Rattle.std.specs.Prelude.{ℕ, ◌<◌, List, [], ◌∷◌}

-- All of them above k.
abbrev pub Above : ℕ → List ℕ → Type 0
Above k [] = Unit {0}
Above k (j ∷ js) = (k < j) × Above k js

abbrev pub Ascending : List ℕ → Type 0
Ascending [] = Unit {0}
Ascending (k ∷ ks) = Above k ks × Ascending ks
