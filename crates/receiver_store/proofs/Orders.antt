-- The rows from the oldest to the newest, and the places that rise along them. Assumes nothing.
use mathlib.Core.Path.{◌≡◌, refl, sym, ap, ◌∙◌, subst}
use mathlib.Core.List.{List, [], ◌∷◌}
use Prim.Native.Nat.{ℕ, ◌+◌, ◌≤◌, ◌<◌}
use native.Mathlib.Omega.{arith}
use lib.ListN.{length}
use Rattle.queue_model.specs.Table.{sum_by}
use Rattle.receiver_model.specs.Lists.{count, keep}
use Rattle.receiver_model.proofs.Lists.{count_nil, count_here, count_there, count_cons, equal, other, compare_same}
use Rattle.receiver_words.specs.Ages.{without}
use Rattle.receiver_words.proofs.Rows.{stands_here, head_once, tail_once, without_here, without_there, without_absent}
use Rattle.receiver_store.specs.Words.{place_of, size_of}
use Rattle.receiver_store.specs.Good.{Below}

-- the rows xs, the last one first, before the rows ys
abbrev pub onto : List ℕ → List ℕ → List ℕ
onto [] ys = ys
onto (x ∷ xs) ys = onto xs (x ∷ ys)

pub count_onto : (n : ℕ) (xs ys : List ℕ) → count n (onto xs ys) ≡ count n xs + count n ys
count_onto n [] ys = let z = count_nil n in omega arith
count_onto n (x ∷ xs) ys = elim (compare_same x n) [
  | equal e ↦ (let ih = count_onto n xs (x ∷ ys) in let a = count_here n x xs e in let b = count_here n x ys e in omega arith)
  | other ne ↦ (let ih = count_onto n xs (x ∷ ys) in let a = count_there n x xs ne in let b = count_there n x ys ne in omega arith)
]

pub length_onto : (xs ys : List ℕ) → length (onto xs ys) ≡ length xs + length ys
length_onto [] ys = omega arith
length_onto (x ∷ xs) ys = let ih = length_onto xs (x ∷ ys) in omega arith

pub sum_same : (g g' : ℕ → ℕ) (xs : List ℕ) → ((x : ℕ) → 0 < count x xs → g' x ≡ g x) → sum_by g' xs ≡ sum_by g xs
sum_same g g' [] f = refl
sum_same g g' (x ∷ xs) f =
    let a : g' x ≡ g x = f x (stands_here x xs) in
    let b : sum_by g' xs ≡ sum_by g xs = sum_same g g' xs (λ y h. f y (let m = count_cons y x xs in omega arith)) in
    omega (arith, a, b)

pub sum_without : (g : ℕ → ℕ) (i : ℕ) (xs : List ℕ) → ((y : ℕ) → count y xs ≤ 1) → 0 < count i xs → sum_by g xs ≡ g i + sum_by g (without i xs)
sum_without g i [] once h = absurd (let z = count_nil i in omega arith)
sum_without g i (x ∷ xs) once h = elim (compare_same x i) [
  | equal s ↦ (let a : sum_by g (without i (x ∷ xs)) ≡ sum_by g xs = ap (sum_by g) (without_here i x xs s ∙ without_absent i xs (ap (λ (y : ℕ). count y xs) (sym s) ∙ head_once x xs once)) in
      let b : g x ≡ g i = ap g s in omega (arith, a, b))
  | other ne ↦ (let a : sum_by g (without i (x ∷ xs)) ≡ g x + sum_by g (without i xs) = ap (sum_by g) (without_there i x xs ne) in
      let c = count_there i x xs ne in
      let b = sum_without g i xs (tail_once x xs once) (omega arith) in omega (arith, a, b))
]

-- ------------------------------------------------------------------ places that rise

-- oldest first: each payload begins at or above the end of the one before, the first at or above `low`; the last ends at or below e
abbrev pub Rising : List ℕ → ℕ → List ℕ → ℕ → Type 0
Rising ws low [] e = low ≤ e
Rising ws low (x ∷ xs) e = (low ≤ place_of ws x) × Rising ws (place_of ws x + size_of ws x) xs e

module _ (ws : List ℕ) where
  pub rising_low : (low low' : ℕ) (xs : List ℕ) (e : ℕ) → low' ≤ low → Rising ws low xs e → Rising ws low' xs e
  rising_low low low' [] e h r = omega (arith, r, h)
  rising_low low low' (x ∷ xs) e h (a, r) = (omega (arith, a, h), r)

  pub rising_end : (low : ℕ) (xs : List ℕ) (e : ℕ) → Rising ws low xs e → low ≤ e
  rising_end low [] e r = r
  rising_end low (x ∷ xs) e (a, r) = let b = rising_end (place_of ws x + size_of ws x) xs e r in omega (arith, a, b)

  pub rising_in : (low : ℕ) (xs : List ℕ) (e y : ℕ) → Rising ws low xs e → 0 < count y xs → (low ≤ place_of ws y) × (place_of ws y + size_of ws y ≤ e)
  rising_in low [] e y r h = absurd (let z = count_nil y in omega arith)
  rising_in low (x ∷ xs) e y (a, r) h = elim (compare_same x y) [
    | equal s ↦ subst (λ (z : ℕ). (low ≤ place_of ws z) × (place_of ws z + size_of ws z ≤ e)) s (a, rising_end (place_of ws x + size_of ws x) xs e r)
    | other ne ↦ (let c = count_there y x xs ne in let i = rising_in (place_of ws x + size_of ws x) xs e y r (omega arith) in (omega (arith, a, i.0), i.1))
  ]

  pub below_up : (e e' : ℕ) (xs : List ℕ) → e ≤ e' → Below ws e xs → Below ws e' xs
  below_up e e' [] h b = tt
  below_up e e' (x ∷ xs) h (a, b) = (omega (arith, a, h), b)

  -- one row fewer
  pub below_without : (e i : ℕ) (xs : List ℕ) → Below ws e xs → Below ws e (without i xs)
  unfolding keep
  below_without e i [] b = tt
  below_without e i (x ∷ xs) (a, b) = elim (compare_same x i) [
    | equal s ↦ subst (λ (ys : List ℕ). Below ws e ys) (sym (without_here i x xs s)) (below_up (place_of ws x) e (without i xs) (omega (arith, a)) (below_without (place_of ws x) i xs b))
    | other ne ↦ subst (λ (ys : List ℕ). Below ws e ys) (sym (without_there i x xs ne)) (a, below_without (place_of ws x) i xs b)
  ]

  pub below_in : (e : ℕ) (xs : List ℕ) (y : ℕ) → Below ws e xs → 0 < count y xs → place_of ws y + size_of ws y ≤ e
  below_in e [] y b h = absurd (let z = count_nil y in omega arith)
  below_in e (x ∷ xs) y (a, b) h = elim (compare_same x y) [
    | equal s ↦ subst (λ (z : ℕ). place_of ws z + size_of ws z ≤ e) s a
    | other ne ↦ (let c = count_there y x xs ne in let i = below_in (place_of ws x) xs y b (omega arith) in omega (arith, a, i))
  ]

  pub below_sum : (e : ℕ) (xs : List ℕ) → Below ws e xs → sum_by (size_of ws) xs ≤ e
  below_sum e [] b = omega arith
  below_sum e (x ∷ xs) (a, b) = let ih = below_sum (place_of ws x) xs b in omega (arith, a, ih)

  -- rows that rise from c on, above rows that lie below c
  pub rising_onto : (c e : ℕ) (zs xs : List ℕ) → Rising ws c zs e → Below ws c xs → Below ws e (onto zs xs)
  rising_onto c e [] xs r b = below_up c e xs r b
  rising_onto c e (z ∷ zs) xs (a, r) b = rising_onto (place_of ws z + size_of ws z) e zs (z ∷ xs) r (omega arith, below_up c (place_of ws z) xs a b)

-- rows whose places and lengths are the same
pub below_frame : (ws ws' : List ℕ) (e : ℕ) (xs : List ℕ) → ((x : ℕ) → 0 < count x xs → place_of ws' x ≡ place_of ws x) → ((x : ℕ) → 0 < count x xs → size_of ws' x ≡ size_of ws x)
    → Below ws e xs → Below ws' e xs
below_frame ws ws' e [] f g b = tt
below_frame ws ws' e (x ∷ xs) f g (a, b) =
    let p : place_of ws' x ≡ place_of ws x = f x (stands_here x xs) in
    let s : size_of ws' x ≡ size_of ws x = g x (stands_here x xs) in (
      omega (arith, a, p, s),
      subst (λ (r : ℕ). Below ws' r xs) (sym p)
          (below_frame ws ws' (place_of ws x) xs (λ y h. f y (let m = count_cons y x xs in omega arith)) (λ y h. g y (let m = count_cons y x xs in omega arith)) b),
    )

pub rising_frame : (ws ws' : List ℕ) (low : ℕ) (xs : List ℕ) (e : ℕ) → ((x : ℕ) → 0 < count x xs → place_of ws' x ≡ place_of ws x) → ((x : ℕ) → 0 < count x xs → size_of ws' x ≡ size_of ws x)
    → Rising ws low xs e → Rising ws' low xs e
rising_frame ws ws' low [] e f g r = r
rising_frame ws ws' low (x ∷ xs) e f g (a, r) =
    let p : place_of ws' x ≡ place_of ws x = f x (stands_here x xs) in
    let s : size_of ws' x ≡ size_of ws x = g x (stands_here x xs) in (
      omega (arith, a, p),
      subst (λ (t : ℕ). Rising ws' t xs e) (sym (ap (λ (t : ℕ). t + size_of ws' x) p ∙ ap (λ (t : ℕ). place_of ws x + t) s))
          (rising_frame ws ws' (place_of ws x + size_of ws x) xs e (λ y h. f y (let m = count_cons y x xs in omega arith)) (λ y h. g y (let m = count_cons y x xs in omega arith)) r),
    )
