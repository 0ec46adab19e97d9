-- Laws of a family of lists that split the places. Assumes nothing.
use mathlib.Core.Path.{◌≡◌, refl, ap, ◌∙◌}
use mathlib.Core.Bool.{Bool, true, false}
use mathlib.Core.List.{List, [], ◌∷◌}
use Prim.Native.Nat.{ℕ, zero, suc, ◌+◌, ◌≤◌, ◌<◌}
use native.Mathlib.Omega.{arith}
use borrow.Author.Tests.{eq-eqb, ne_eqb, ltb-true, ltb-false}
use lib.Dec.{ltb}
use lib.ListN.{length}
use Rattle.queue_words.specs.Flags.{pick}
use Rattle.queue_state.specs.Chains.{count, upd, sum_to, total, one, range, Linked, Split}
use Rattle.queue_state.proofs.Chains.{hit_same, hit_eq, hit_other}
use Rattle.payload_store.proofs.Sums.{sum_same, sum_has, sum_both}
use Rattle.payload_store.proofs.Cases.{by_index}

pub upd_same : (q : ℕ → List ℕ) (i : ℕ) (v : List ℕ) → upd q i v i ≡ v
unfolding upd
upd_same q i v = rw (eq-eqb i i refl)

pub upd_other : (q : ℕ → List ℕ) (i : ℕ) (v : List ℕ) (j : ℕ) → (i ≡ j → ⊥) → upd q i v j ≡ q j
unfolding upd
upd_other q i v j ne = rw (ne_eqb i j ne)

sum_one : (g g' : ℕ → ℕ) (i n : ℕ) → i < n → ((j : ℕ) → (i ≡ j → ⊥) → g' j ≡ g j) → sum_to g' n + g i ≡ sum_to g n + g' i
unfolding sum_to
sum_one g g' i zero h f = absurd (omega arith)
sum_one g g' i (suc n) h f = by_index i n
    (λ e. let s : sum_to g' n ≡ sum_to g n = sum_same g g' n (λ j l. f j (λ z. omega arith)) in rw e (omega arith))
    (λ ne. omega (arith, f n ne, sum_one g g' i n (omega arith) f))

module _ (h : List ℕ → ℕ) (q : ℕ → List ℕ) where
  pub total_upd : (i : ℕ) (v : List ℕ) → i < 256 → total h (upd q i v) + h (q i) ≡ total h q + h v
  unfolding total
  total_upd i v l =
      let e : h (upd q i v i) ≡ h v = ap h (upd_same q i v) in
      omega (arith, sum_one (λ j. h (q j)) (λ j. h (upd q i v j)) i 256 l (λ j ne. ap h (upd_other q i v j ne)))

  pub total_has : (i : ℕ) → i < 256 → h (q i) ≤ total h q
  unfolding total
  total_has i l = sum_has (λ j. h (q j)) i 256 l

  pub total_two : (i j : ℕ) → i < 256 → j < 256 → (i ≡ j → ⊥) → h (q i) + h (q j) ≤ total h q
  unfolding total
  total_two i j l k ne = sum_both (λ j. h (q j)) i j 256 l k ne

-- the same where the measure changes too, but not of the other lists
pub total_change : (h h' : List ℕ → ℕ) (q : ℕ → List ℕ) (i : ℕ) (v : List ℕ) → i < 256 → ((j : ℕ) → (i ≡ j → ⊥) → h' (q j) ≡ h (q j)) → total h' (upd q i v) + h (q i) ≡ total h q + h' v
unfolding total
total_change h h' q i v l f =
    let e : h' (upd q i v i) ≡ h' v = ap h' (upd_same q i v) in
    omega (arith, sum_one (λ j. h (q j)) (λ j. h' (upd q i v j)) i 256 l (λ j ne. ap h' (upd_other q i v j ne) ∙ f j ne))

one_le : (x : ℕ) → one x ≤ 1
unfolding one
one_le x = go (ltb x 1024)
  where
    go : (b : Bool) → pick b 1 0 ≤ 1
    go true = omega arith
    go false = omega arith

-- DISJOINT: no place stands twice
module _ (q : ℕ → List ℕ) (fr : List ℕ) (s : Split q fr) where
  pub free_once : (x : ℕ) → count x fr ≤ 1
  free_once x = omega (arith, s.once x, one_le x)

  pub free_apart : (x j : ℕ) → j < 256 → count x fr + count x (q j) ≤ 1
  free_apart x j h = omega (arith, s.once x, one_le x, total_has (count x) q j h)

  pub row_once : (x j : ℕ) → j < 256 → count x (q j) ≤ 1
  row_once x j h = omega (arith, free_apart x j h)

  pub rows_apart : (x i j : ℕ) → i < 256 → j < 256 → (i ≡ j → ⊥) → count x (q i) + count x (q j) ≤ 1
  rows_apart x i j h k ne = omega (arith, s.once x, one_le x, total_two (count x) q i j h k ne)

  pub row_short : (j : ℕ) → j < 256 → length (q j) ≤ 1024
  row_short j h = omega (arith, s.all, total_has length q j h)

-- FAR: places of different lists are different places
module _ (q : ℕ → List ℕ) (fr : List ℕ) (s : Split q fr) where
  pub far_free : (x y j : ℕ) → j < 256 → 1 ≤ count x fr → 1 ≤ count y (q j) → x ≡ y → ⊥
  far_free x y j h a b e =
      let k : 1 ≤ count x (q j) = rw e b in
      omega (arith, free_apart q fr s x j h)

  pub far_rows : (x y i j : ℕ) → i < 256 → j < 256 → (i ≡ j → ⊥) → 1 ≤ count x (q i) → 1 ≤ count y (q j) → x ≡ y → ⊥
  far_rows x y i j h k ne a b e =
      let z : 1 ≤ count x (q j) = rw e b in
      omega (arith, rows_apart q fr s x i j h k ne)

-- the first of a list without doubles does not come again
pub far_tail : (x y : ℕ) (xs : List ℕ) → ((z : ℕ) → count z (x ∷ xs) ≤ 1) → 1 ≤ count y xs → x ≡ y → ⊥
far_tail x y xs once a e =
    let z : 1 ≤ count x xs = rw e a in
    omega (arith, once x, hit_same x)

-- MOVE: whatever goes between the i-th list and the free places, so long as each place stays
pub split_move : (q : ℕ → List ℕ) (fr : List ℕ) (i : ℕ) (v fr' : List ℕ) → i < 256 → ((x : ℕ) → count x fr' + count x v ≡ count x fr + count x (q i))
    → length fr' + length v ≡ length fr + length (q i) → Split q fr → Split (upd q i v) fr'
split_move q fr i v fr' h m n s = record {
  once = λ x. omega (arith, s.once x, m x, total_upd (count x) q i v h);
  all = omega (arith, s.all, total_upd length q i v h);
}

-- all places are free
sum_zero : (g : ℕ → ℕ) (n : ℕ) → ((j : ℕ) → g j ≡ 0) → sum_to g n ≡ 0
unfolding sum_to
sum_zero g zero f = refl
sum_zero g (suc n) f = omega (arith, f n, sum_zero g n f)

pub total_zero : (h : List ℕ → ℕ) (q : ℕ → List ℕ) → ((j : ℕ) → h (q j) ≡ 0) → total h q ≡ 0
unfolding total
total_zero h q f = sum_zero (λ j. h (q j)) 256 f

range_below : (x a n : ℕ) → x < a → count x (range a n) ≡ 0
unfolding range
range_below x a zero h = refl
range_below x a (suc n) h = omega (arith, hit_other x a (λ e. omega arith), range_below x (suc a) n (omega arith))

range_above : (x a n : ℕ) → a + n ≤ x → count x (range a n) ≡ 0
unfolding range
range_above x a zero h = refl
range_above x a (suc n) h = omega (arith, hit_other x a (λ e. omega arith), range_above x (suc a) n (omega arith))

range_in : (x a n : ℕ) → a ≤ x → x < a + n → count x (range a n) ≡ 1
unfolding range
range_in x a zero h k = absurd (omega arith)
range_in x a (suc n) h k = by_index x a
    (λ e. omega (arith, hit_eq x a e, range_below x (suc a) n (omega arith)))
    (λ ne. omega (arith, hit_other x a ne, range_in x (suc a) n (omega arith) (omega arith)))

pub range_length : (a n : ℕ) → length (range a n) ≡ n
unfolding range
range_length a zero = refl
range_length a (suc n) = omega (arith, range_length (suc a) n)

pub range_linked : (nx : ℕ → ℕ) (a n : ℕ) → a + n ≡ 1024 → ((x : ℕ) → a ≤ x → x < a + n → nx x ≡ x + 1) → Linked nx a (range a n)
unfolding range
range_linked nx a zero e f = omega arith
range_linked nx a (suc n) e f =
    let z : nx a ≡ suc a = omega (arith, f a (omega arith) (omega arith)) in
    (refl, omega arith, rw z (range_linked nx (suc a) n (omega arith) (λ x h k. f x (omega arith) (omega arith))))

one_range : (x n : ℕ) → n ≡ 1024 → count x (range 0 n) ≡ one x
unfolding one
one_range x n e = go (ltb x 1024) refl
  where
    go : (b : Bool) → ltb x 1024 ≡ b → count x (range 0 n) ≡ pick b 1 0
    go true h = range_in x 0 n (omega arith) (omega (arith, ltb-true x 1024 h))
    go false h = range_above x 0 n (omega (arith, ltb-false x 1024 h))

pub split_new : Split (λ j. []) (range 0 1024)
split_new = record {
  once = λ x. omega (arith, one_range x 1024 refl, total_zero (count x) (λ j. []) (λ j. refl));
  all = omega (arith, range_length 0 1024, total_zero length (λ j. []) (λ j. refl));
}

-- SUMS from the front, and up to where the lists are empty
pub sum_front : (g : ℕ → ℕ) (n : ℕ) → sum_to g (suc n) ≡ g 0 + sum_to (λ j. g (suc j)) n
unfolding sum_to
sum_front g zero = refl
sum_front g (suc n) = omega (arith, sum_front g n)

sum_trim : (g : ℕ → ℕ) (n k : ℕ) → k ≤ n → ((j : ℕ) → k ≤ j → g j ≡ 0) → sum_to g n ≡ sum_to g k
unfolding sum_to
sum_trim g zero k h f = let e : k ≡ 0 = omega arith in rw e
sum_trim g (suc n) k h f = by_index k (suc n) (λ e. rw e) (λ ne. omega (arith, f n (omega arith), sum_trim g n k (omega arith) f))

pub total_upto : (h : List ℕ → ℕ) (q : ℕ → List ℕ) (k : ℕ) → k ≤ 256 → ((j : ℕ) → k ≤ j → h (q j) ≡ 0) → total h q ≡ sum_to (λ j. h (q j)) k
unfolding total
total_upto h q k l f = sum_trim (λ j. h (q j)) 256 k l f

pub sum_agree : (g g' : ℕ → ℕ) (n : ℕ) → ((j : ℕ) → j < n → g' j ≡ g j) → sum_to g' n ≡ sum_to g n
sum_agree g g' n f = sum_same g g' n f

pub total_agree : (h h' : List ℕ → ℕ) (q : ℕ → List ℕ) → ((j : ℕ) → h' (q j) ≡ h (q j)) → total h' q ≡ total h q
unfolding total
total_agree h h' q f = sum_same (λ j. h (q j)) (λ j. h' (q j)) 256 (λ j l. f j)
