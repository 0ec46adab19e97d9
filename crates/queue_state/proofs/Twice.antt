-- A row put twice. Assumes nothing.
use mathlib.Core.Path.{◌≡◌, sym, ap, ◌∙◌}
use mathlib.Core.List.{List, [], ◌∷◌}
use Prim.Native.Nat.{ℕ}
use native.Mathlib.Omega.{arith}
use Rattle.queue_model.specs.Table.{put}
use Rattle.queue_model.proofs.Tests.{tri, less, same, more}
use Rattle.queue_model.proofs.Table.{put_end, put_later, put_here, put_before}

-- The second of two rows with one key stays.
pub put_twice : {A : Type 0} (key : A → ℕ) (x y : A) (xs : List A) → key x ≡ key y → put key y (put key x xs) ≡ put key y xs
put_twice key x y [] e = ap (put key y) (put_end key x) ∙ put_here key y x [] e ∙ sym (put_end key y)
put_twice key x y (z ∷ zs) e = elim (tri (key z) (key x)) [
  | less l ↦ ap (put key y) (put_later key x z zs l) ∙ put_later key y z (put key x zs) (omega arith) ∙ ap (λ t. z ∷ t) (put_twice key x y zs e) ∙ sym (put_later key y z zs (omega arith))
  | same f ↦ ap (put key y) (put_here key x z zs f) ∙ put_here key y x zs e ∙ sym (put_here key y z zs (f ∙ e))
  | more l ↦ ap (put key y) (put_before key x z zs l) ∙ put_here key y x (z ∷ zs) e ∙ sym (put_before key y z zs (omega arith))
]
