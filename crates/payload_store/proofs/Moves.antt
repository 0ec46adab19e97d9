-- What a move down leaves: length, bytes outside, bytes moved; equal parts of two stores. Assumes nothing.
use mathlib.Core.Path.{◌≡◌, refl, sym, ap, ◌∙◌}
use mathlib.Core.Logic.{◌⊎◌, inl, inr, ⊎_elim}
use mathlib.Core.List.{List}
use Prim.Native.Nat.{ℕ, zero, suc, ◌+◌, ◌-◌, ◌≤◌, ◌<◌}
use native.Mathlib.Omega.{arith}
use native.Mathlib.Numerals.{add-one}
use lib.ListN.{length, get_or, set, take, drop, length-set, length-drop}
use lib.Seq.{paste, get_or-set_same, get_or-set_other, get_or-take, get_or-drop, ext_get_or, length-take-le}
use Rattle.std.specs.List.{copy_within}
use Rattle.std.proofs.lemmas.List.Edits.{paste_none, paste_more}
use Rattle.payload_store.specs.Moving.{moved}
use Rattle.payload_store.proofs.Cases.{by_index}

module _ (st : List ℕ) (from to : ℕ) where
  pub moved_length : (k : ℕ) → length (moved st from to k) ≡ length st
  unfolding moved
  moved_length zero = refl
  moved_length (suc k) = length-set (moved st from to k) (to + k) _ ∙ moved_length k

  pub moved_other : (k j : ℕ) → (j < to) ⊎ (to + k ≤ j) → get_or (moved st from to k) j 0 ≡ get_or st j 0
  unfolding moved
  moved_other zero j o = refl
  moved_other (suc k) j o =
      get_or-set_other (moved st from to k) (to + k) j _ 0 (λ e. ⊎_elim (λ l. omega arith) (λ l. omega arith) o)
      ∙ moved_other k j (⊎_elim (λ l. inl l) (λ l. inr (omega arith)) o)

  pub moved_at : (k j : ℕ) → to ≤ from → from + k ≤ length st → j < k → get_or (moved st from to k) (to + j) 0 ≡ get_or st (from + j) 0
  unfolding moved
  moved_at zero j h l q = absurd (omega arith)
  moved_at (suc k) j h l q = by_index j k
      (λ e. ap (λ m. get_or (moved st from to (suc k)) (to + m) 0) e
      ∙ (get_or-set_same (moved st from to k) (to + k) _ 0 (omega (arith, moved_length k))
      ∙ (moved_other k (from + k) (inr (omega arith)) ∙ ap (λ m. get_or st (from + m) 0) (sym e))))
      (λ ne. get_or-set_other (moved st from to k) (to + k) (to + j) _ 0 (λ e. ne (omega arith))
      ∙ moved_at k j h (omega arith) (omega arith))

-- a copy within the store leaves the same
pasted : (st : List ℕ) (from to k : ℕ) → to ≤ from → from + k ≤ length st → paste st to (drop from st) k ≡ moved st from to k
unfolding moved
pasted st from to zero h l = sym (paste_none st to (drop from st))
pasted st from to (suc k) h l =
    let b : get_or (moved st from to k) (from + k) 0 ≡ get_or (drop from st) k 0 = moved_other st from to k (from + k) (inr (omega arith)) ∙ sym (get_or-drop from st k 0) in
    let p : set (paste st to (drop from st) k) (to + k) (get_or (drop from st) k 0) ≡ paste st to (drop from st) (k + 1) = paste_more st to (drop from st) k 0 (omega arith) (simp length-drop (omega arith)) in
    rw (b, ← pasted st from to k h (omega arith)) (sym (rw add-one at p))

pub moved_within : (st : List ℕ) (from to n : ℕ) → to ≤ from → from + n ≤ length st → copy_within st from (from + n) to ≡ moved st from to n
moved_within st from to n h l =
    let z : from + n - from ≡ n = omega arith in
    rw z (pasted st from to n h l)

-- two parts of stores are equal by their bytes
pub part_same : (st st' : List ℕ) (p p' n : ℕ) → p + n ≤ length st → p' + n ≤ length st'
    → ((j : ℕ) → j < n → get_or st' (p' + j) 0 ≡ get_or st (p + j) 0) → take n (drop p' st') ≡ take n (drop p st)
part_same st st' p p' n h h' f =
    let l : length (take n (drop p st)) ≡ n = length-take-le n (drop p st) (simp length-drop (omega arith)) in
    let l' : length (take n (drop p' st')) ≡ n = length-take-le n (drop p' st') (simp length-drop (omega arith)) in
    ext_get_or 0 (take n (drop p' st')) (take n (drop p st)) (l' ∙ sym l)
    (λ j q. let b : j < n = omega arith in rw (get_or-take n (drop p' st') j 0 b, get_or-take n (drop p st) j 0 b, get_or-drop p' st' j 0, get_or-drop p st j 0) (f j b))
