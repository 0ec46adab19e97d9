-- Sums of the first n values of a function. Assumes nothing.
use mathlib.Core.Path.{◌≡◌, refl}
use Prim.Native.Nat.{ℕ, zero, suc, ◌+◌, ◌≤◌, ◌<◌}
use native.Mathlib.Omega.{arith}
use Rattle.payload_store.specs.Good.{sum_to}
use Rattle.payload_store.proofs.Cases.{by_index}

pub sum_same : (g g' : ℕ → ℕ) (n : ℕ) → ((j : ℕ) → j < n → g' j ≡ g j) → sum_to g' n ≡ sum_to g n
unfolding sum_to
sum_same g g' zero f = refl
sum_same g g' (suc n) f = rw (f n (omega arith), sum_same g g' n (λ j h. f j (omega arith)))

pub sum_one : (g g' : ℕ → ℕ) (i n : ℕ) → i < n → ((j : ℕ) → j < n → (i ≡ j → ⊥) → g' j ≡ g j) → sum_to g' n + g i ≡ sum_to g n + g' i
unfolding sum_to
sum_one g g' i zero h f = absurd (omega arith)
sum_one g g' i (suc n) h f = by_index i n
    (λ e. let s : sum_to g' n ≡ sum_to g n = sum_same g g' n (λ j l. f j (omega arith) (λ z. omega arith)) in rw e (omega arith))
    (λ ne. omega (arith, f n (omega arith) ne, sum_one g g' i n (omega arith) (λ j l. f j (omega arith))))

pub sum_zero : (g : ℕ → ℕ) (n : ℕ) → ((j : ℕ) → j < n → g j ≡ 0) → sum_to g n ≡ 0
unfolding sum_to
sum_zero g zero f = refl
sum_zero g (suc n) f = omega (arith, f n (omega arith), sum_zero g n (λ j h. f j (omega arith)))

pub sum_has : (g : ℕ → ℕ) (i n : ℕ) → i < n → g i ≤ sum_to g n
unfolding sum_to
sum_has g i zero h = absurd (omega arith)
sum_has g i (suc n) h = by_index i n (λ e. rw e (omega arith)) (λ ne. omega (arith, sum_has g i n (omega arith)))

pub sum_both : (g : ℕ → ℕ) (i j n : ℕ) → i < n → j < n → (i ≡ j → ⊥) → g i + g j ≤ sum_to g n
unfolding sum_to
sum_both g i j zero h l ne = absurd (omega arith)
sum_both g i j (suc n) h l ne = by_index i n
    (λ e. rw e (omega (arith, sum_has g j n (omega arith))))
    (λ ni. by_index j n (λ e. rw e (omega (arith, sum_has g i n (omega arith)))) (λ nj. omega (arith, sum_both g i j n (omega arith) (omega arith) ne)))
