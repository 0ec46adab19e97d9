-- Lists of rows: choosing, and how many there can be. Assumes nothing.
use mathlib.Core.Path.{◌≡◌, refl, sym, ap, ◌∙◌}
use mathlib.Core.Bool.{Bool, not}
use mathlib.Core.List.{List, [], ◌∷◌, ◌++◌}
use Prim.Native.Nat.{ℕ, zero, suc, ◌≤◌, ◌<◌}
use native.Mathlib.Omega.{arith}
use lib.Dec.{eqb}
use lib.ListN.{length}
use Rattle.receiver_model.specs.Lists.{keep, count}
use Rattle.receiver_model.proofs.Lists.{Value, yes_is, no_is, value, count_nil, count_there, count_cons, Same, equal, other, compare_same, keep_yes, keep_no, count_keep_yes, count_keep_no}
use Rattle.receiver_words.specs.Ages.{without}
use Rattle.receiver_words.proofs.Rows.{stands_here, head_once, tail_once, not_among, without_here, without_there, without_absent, count_without}

-- ------------------------------------------------------------------ choosing

-- two tests that agree on the rows
pub keep_same : (f g : ℕ → Bool) (xs : List ℕ) → ((x : ℕ) → 0 < count x xs → f x ≡ g x) → keep f xs ≡ keep g xs
unfolding keep
keep_same f g [] h = refl
keep_same f g (x ∷ xs) h = go (value (f x)) (keep_same f g xs (λ y c. h y (let m = count_cons y x xs in omega arith)))
  where
    here : f x ≡ g x
    here = h x (stands_here x xs)

    go : Value (f x) → keep f xs ≡ keep g xs → keep f (x ∷ xs) ≡ keep g (x ∷ xs)
    go (yes_is e) ih = keep_yes f x xs e ∙ ap (◌∷◌ x) ih ∙ sym (keep_yes g x xs (sym here ∙ e))
    go (no_is e) ih = keep_no f x xs e ∙ ih ∙ sym (keep_no g x xs (sym here ∙ e))

pub keep_append : (f : ℕ → Bool) (xs ys : List ℕ) → keep f (xs ++ ys) ≡ keep f xs ++ keep f ys
unfolding keep
keep_append f [] ys = refl
keep_append f (x ∷ xs) ys = go (value (f x)) (keep_append f xs ys)
  where
    go : Value (f x) → keep f (xs ++ ys) ≡ keep f xs ++ keep f ys → keep f (x ∷ xs ++ ys) ≡ keep f (x ∷ xs) ++ keep f ys
    go (yes_is e) ih = keep_yes f x (xs ++ ys) e ∙ ap (◌∷◌ x) ih ∙ sym (ap (λ (zs : List ℕ). zs ++ keep f ys) (keep_yes f x xs e))
    go (no_is e) ih = keep_no f x (xs ++ ys) e ∙ ih ∙ sym (ap (λ (zs : List ℕ). zs ++ keep f ys) (keep_no f x xs e))

-- the row taken out before or after
pub keep_without : (f : ℕ → Bool) (i : ℕ) (xs : List ℕ) → keep f (without i xs) ≡ without i (keep f xs)
unfolding keep
keep_without f i [] = refl
keep_without f i (x ∷ xs) = go (compare_same x i) (value (f x)) (keep_without f i xs)
  where
    go : Same x i → Value (f x) → keep f (without i xs) ≡ without i (keep f xs) → keep f (without i (x ∷ xs)) ≡ without i (keep f (x ∷ xs))
    go (equal s) (yes_is e) ih = ap (keep f) (without_here i x xs s) ∙ ih ∙ sym (ap (without i) (keep_yes f x xs e) ∙ without_here i x (keep f xs) s)
    go (equal s) (no_is e) ih = ap (keep f) (without_here i x xs s) ∙ ih ∙ sym (ap (without i) (keep_no f x xs e))
    go (other d) (yes_is e) ih =
        ap (keep f) (without_there i x xs d) ∙ keep_yes f x (without i xs) e ∙ ap (◌∷◌ x) ih
        ∙ sym (ap (without i) (keep_yes f x xs e) ∙ without_there i x (keep f xs) d)
    go (other d) (no_is e) ih = ap (keep f) (without_there i x xs d) ∙ keep_no f x (without i xs) e ∙ ih ∙ sym (ap (without i) (keep_no f x xs e))

pub count_kept : (y : ℕ) (f : ℕ → Bool) (xs : List ℕ) → count y (keep f xs) ≤ count y xs
count_kept y f xs = go (value (f y))
  where
    go : Value (f y) → count y (keep f xs) ≤ count y xs
    go (yes_is e) = let a = count_keep_yes y f xs e in omega arith
    go (no_is e) = let a = count_keep_no y f xs e in omega arith

-- ------------------------------------------------------------------ how many

pub length_end : (xs : List ℕ) (i : ℕ) → length (xs ++ (i ∷ [])) ≡ suc (length xs)
length_end [] i = refl
length_end (x ∷ xs) i = ap suc (length_end xs i)

-- a row that stands once, taken out
pub length_without : (i : ℕ) (xs : List ℕ) → ((y : ℕ) → count y xs ≤ 1) → 0 < count i xs → length xs ≡ suc (length (without i xs))
length_without i [] once h = absurd (let z = count_nil i in omega arith)
length_without i (x ∷ xs) once h = elim (compare_same x i) [
  | equal s ↦ ap suc (sym (ap length (without_here i x xs s ∙ without_absent i xs (ap (λ (y : ℕ). count y xs) (sym s) ∙ head_once x xs once))))
  | other d ↦ (let a = count_there i x xs d in ap suc (length_without i xs (tail_once x xs once) (omega arith)) ∙ ap suc (sym (ap length (without_there i x xs d))))
]

no_rows : (xs : List ℕ) → ((y : ℕ) → 0 < count y xs → y < 0) → length xs ≤ 0
no_rows [] below = omega arith
no_rows (x ∷ xs) below = absurd (let b = below x (stands_here x xs) in omega arith)

-- of n rows no more than n
pub few : (n : ℕ) (xs : List ℕ) → ((y : ℕ) → count y xs ≤ 1) → ((y : ℕ) → 0 < count y xs → y < n) → length xs ≤ n
few zero xs once below = no_rows xs below
few (suc n) xs once below = go (compare_same (count n xs) 0) (λ ys o b. few n ys o b)
  where
    lower : (y : ℕ) → 0 < count y xs → (y ≡ n → ⊥) → y < n
    lower y h d = let b = below y h in omega arith

    go : Same (count n xs) 0 → ((ys : List ℕ) → ((y : ℕ) → count y ys ≤ 1) → ((y : ℕ) → 0 < count y ys → y < n) → length ys ≤ n) → length xs ≤ suc n
    go (equal z) ih = let a = ih xs once (λ y h. lower y h (λ s. not_among n y xs z h (sym s))) in omega arith
    go (other d) ih =
        let l = length_without n xs once (omega arith) in
        let a = ih (without n xs)
        (λ y. let c = count_kept y (λ (v : ℕ). not (eqb v n)) xs in let o = once y in omega arith)
        (λ y h. lower y (let c = count_kept y (λ (v : ℕ). not (eqb v n)) xs in omega arith) (λ s. not_among n y (without n xs) (count_without n xs) h (sym s))) in
        omega arith
