-- The elements that `array::from_fn` makes by a closure that no call changes. Assumes nothing.
use mathlib.Core.Path.{◌≡◌, subst}
use mathlib.Core.List.{List}
use Prim.Native.Nat.{ℕ, zero, suc, ◌+◌, ◌<◌, ◌≤◌}
use native.Mathlib.Omega.{arith}
use lib.ListN.{get_or}
use denote.Param.Members.{Mut, Called}
use Rattle.std.specs.Array.{IsFromFnResultFrom}

module _ {F B : Type 0} (g : Mut F (ℕ × Unit {0}) B) (made : ℕ → B) (f : F) (m : ℕ) (step : (i : ℕ) (y : B) (q : F) → i < m → Called g f (i, tt) y q → (y ≡ made i) × (q ≡ f)) where
  pub made_same : (ys : List B) (i n : ℕ) → i + n ≤ m → IsFromFnResultFrom g f ys i n → (j : ℕ) (d : B) → j < n → get_or ys (i + j) d ≡ made (i + j)
  made_same ys i zero b r j d h = absurd (omega arith)
  made_same ys i (suc n) b (q, y, e, k, r) zero d h =
      let s : (y ≡ made i) × (q ≡ f) = step i y q (omega arith) k in
      let z : i + 0 ≡ i = omega arith in
      rw (z, e.1 d, s.0)
  made_same ys i (suc n) b (q, y, e, k, r) (suc j) d h =
      let s : (y ≡ made i) × (q ≡ f) = step i y q (omega arith) k in
      let z : i + suc j ≡ i + 1 + j = omega arith in
      rw z (made_same ys (i + 1) n (omega arith) (subst (λ (p : F). IsFromFnResultFrom g p ys (i + 1) n) s.1 r) j d (omega arith))

  pub made_each : (ys : List B) (n : ℕ) → n ≤ m → IsFromFnResultFrom g f ys 0 n → (i : ℕ) (d : B) → i < n → get_or ys i d ≡ made i
  made_each ys n b r i d h =
      let z : 0 + i ≡ i = omega arith in
      rw z at (made_same ys 0 n (omega arith) r i d h)
