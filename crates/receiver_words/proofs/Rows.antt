-- Lists of rows: a list without a row, rows that stand once. Assumes nothing.
use mathlib.Core.Path.{◌≡◌, refl, ap, ◌∙◌}
use mathlib.Core.Bool.{Bool, true, false, not}
use mathlib.Core.List.{List, [], ◌∷◌}
use Prim.Native.Nat.{ℕ, ◌≤◌, ◌<◌}
use native.Mathlib.Omega.{arith}
use borrow.Author.Tests.{eq-eqb, ne_eqb, ltb-true, ltb-false}
use lib.Dec.{eqb, ltb}
use Rattle.receiver_model.specs.Lists.{keep, count}
use Rattle.receiver_model.proofs.Lists.{count_here, count_there, count_cons, keep_yes, keep_no, count_keep_yes, count_keep_no, equal, other, compare_same}
use Rattle.receiver_words.specs.Ages.{without}

pub by_row : {G : Type 0} (p : ℕ) → (p < 4096 → G) → (4096 ≤ p → G) → G
by_row {G} p f g = go (ltb p 4096) refl
  where
    go : (t : Bool) → ltb p 4096 ≡ t → G
    go true e = f (ltb-true p 4096 e)
    go false e = g (ltb-false p 4096 e)

pub stands_here : (x : ℕ) (xs : List ℕ) → 0 < count x (x ∷ xs)
stands_here x xs = let a = count_here x x xs refl in omega arith

-- rows that stand once: the first one is none of the others
pub head_once : (x : ℕ) (xs : List ℕ) → ((y : ℕ) → count y (x ∷ xs) ≤ 1) → count x xs ≡ 0
head_once x xs once = let a = count_here x x xs refl in let b = once x in omega arith

pub tail_once : (x : ℕ) (xs : List ℕ) → ((y : ℕ) → count y (x ∷ xs) ≤ 1) → (y : ℕ) → count y xs ≤ 1
tail_once x xs once y = let a = count_cons y x xs in let b = once y in omega arith

pub unlike_head : (x y : ℕ) (xs : List ℕ) → ((z : ℕ) → count z (x ∷ xs) ≤ 1) → 0 < count y xs → x ≡ y → ⊥
unlike_head x y xs once h e = let a = count_here y x xs e in let b = once y in omega arith

pub not_among : (i x : ℕ) (xs : List ℕ) → count i xs ≡ 0 → 0 < count x xs → i ≡ x → ⊥
not_among i x xs z h e = let a : count i xs ≡ count x xs = ap (λ (y : ℕ). count y xs) e in omega arith

pub without_here : (i x : ℕ) (xs : List ℕ) → x ≡ i → without i (x ∷ xs) ≡ without i xs
without_here i x xs e = keep_no (λ (y : ℕ). not (eqb y i)) x xs (ap not (eq-eqb x i e))

pub without_there : (i x : ℕ) (xs : List ℕ) → (x ≡ i → ⊥) → without i (x ∷ xs) ≡ x ∷ without i xs
without_there i x xs ne = keep_yes (λ (y : ℕ). not (eqb y i)) x xs (ap not (ne_eqb x i ne))

pub without_absent : (i : ℕ) (xs : List ℕ) → count i xs ≡ 0 → without i xs ≡ xs
unfolding keep
without_absent i [] z = refl
without_absent i (x ∷ xs) z = elim (compare_same x i) [
  | equal e ↦ absurd (let a = count_here i x xs e in omega arith)
  | other ne ↦ (let a = count_there i x xs ne in without_there i x xs ne ∙ ap (◌∷◌ x) (without_absent i xs (omega arith)))
]

-- a row that is the first of rows that stand once, taken out
pub without_head : (i : ℕ) (xs : List ℕ) → count i xs ≡ 0 → without i (i ∷ xs) ≡ xs
without_head i xs z = without_here i i xs refl ∙ without_absent i xs z

pub count_without : (i : ℕ) (xs : List ℕ) → count i (without i xs) ≡ 0
count_without i xs = count_keep_no i (λ (y : ℕ). not (eqb y i)) xs (ap not (eq-eqb i i refl))

pub count_without_other : (i y : ℕ) (xs : List ℕ) → (y ≡ i → ⊥) → count y (without i xs) ≡ count y xs
count_without_other i y xs ne = count_keep_yes y (λ (z : ℕ). not (eqb z i)) xs (ap not (ne_eqb y i ne))
