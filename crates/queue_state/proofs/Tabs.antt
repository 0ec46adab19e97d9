-- Tables given by a function: one row set, one put between, all mapped. Assumes nothing.
use mathlib.Core.Path.{◌≡◌, refl, sym, ap, ◌∙◌}
use mathlib.Core.List.{◌∷◌, map}
use mathlib.Core.Option.{none, some}
use Prim.Native.Nat.{ℕ, zero, suc, ◌≤◌, ◌<◌}
use native.Mathlib.Omega.{arith}
use lib.ListN.{length}
use Rattle.queue_model.specs.Table.{find, put, sum_by}
use Rattle.queue_model.proofs.Table.{find_nil, find_here, find_there, put_end, put_later, put_here, put_before, After, Rising, Every}
use Rattle.queue_state.specs.Chains.{sum_to}
use Rattle.queue_state.specs.Model.{tab}
use Rattle.queue_state.proofs.Splits.{sum_front}

pub tab_same : {A : Type 0} (n : ℕ) (f f' : ℕ → A) → ((j : ℕ) → j < n → f' j ≡ f j) → tab f' n ≡ tab f n
unfolding tab
tab_same zero f f' k = refl
tab_same (suc n) f f' k = rw (k 0 (omega arith), tab_same n (λ j. f (suc j)) (λ j. f' (suc j)) (λ j l. k (suc j) (omega arith)))

pub tab_length : {A : Type 0} (f : ℕ → A) (n : ℕ) → length (tab f n) ≡ n
unfolding tab
tab_length f zero = refl
tab_length f (suc n) = ap suc (tab_length (λ j. f (suc j)) n)

pub tab_map : {A : Type 0} (h : A → A) (f f' : ℕ → A) (n : ℕ) → ((j : ℕ) → j < n → f' j ≡ h (f j)) → tab f' n ≡ map h (tab f n)
unfolding tab
tab_map h f f' zero k = refl
tab_map h f f' (suc n) k = rw (k 0 (omega arith), tab_map h (λ j. f (suc j)) (λ j. f' (suc j)) n (λ j l. k (suc j) (omega arith)))

pub tab_sum : {A : Type 0} (h : A → ℕ) (f : ℕ → A) (n : ℕ) → sum_by h (tab f n) ≡ sum_to (λ j. h (f j)) n
unfolding tab sum_to
tab_sum h f zero = refl
tab_sum h f (suc n) = omega (arith, tab_sum h (λ j. f (suc j)) n, sum_front (λ j. h (f j)) n)

pub tab_each : {A : Type 0} (P : A → Type 0) (f : ℕ → A) (n j : ℕ) → Every P (tab f n) → j < n → P (f j)
unfolding tab
tab_each P f zero j h l = absurd (omega arith)
tab_each P f (suc n) zero h l = h.0
tab_each P f (suc n) (suc j) h l = tab_each P (λ i. f (suc i)) n j h.1 (omega arith)

module _ {A : Type 0} (key : A → ℕ) where
  -- The keys rise.
  abbrev pub Rises : (ℕ → A) → ℕ → Type 0
  Rises f n = (i j : ℕ) → i < j → j < n → key (f i) < key (f j)

  rises_on : (f : ℕ → A) (n : ℕ) → Rises f (suc n) → Rises (λ j. f (suc j)) n
  rises_on f n r i j h l = r (suc i) (suc j) (omega arith) (omega arith)

  pub tab_find : (f : ℕ → A) (n i : ℕ) → Rises f n → i < n → find key (key (f i)) (tab f n) ≡ some (f i)
  unfolding tab
  tab_find f zero i r h = absurd (omega arith)
  tab_find f (suc n) zero r h = find_here key (key (f 0)) (f 0) (tab (λ j. f (suc j)) n) refl
  tab_find f (suc n) (suc i) r h =
      let l : key (f 0) < key (f (suc i)) = r 0 (suc i) (omega arith) (omega arith) in
      find_there key (key (f (suc i))) (f 0) (tab (λ j. f (suc j)) n) (λ e. omega arith) ∙ tab_find (λ j. f (suc j)) n i (rises_on f n r) (omega arith)

  pub tab_none : (f : ℕ → A) (n k : ℕ) → ((j : ℕ) → j < n → key (f j) ≡ k → ⊥) → find key k (tab f n) ≡ none
  unfolding tab
  tab_none f zero k h = find_nil key k
  tab_none f (suc n) k h =
      find_there key k (f 0) (tab (λ j. f (suc j)) n) (h 0 (omega arith)) ∙ tab_none (λ j. f (suc j)) n k (λ j l. h (suc j) (omega arith))

  -- One row set.
  pub tab_put : (f f' : ℕ → A) (n i : ℕ) → Rises f n → i < n → key (f' i) ≡ key (f i) → ((j : ℕ) → j < n → (i ≡ j → ⊥) → f' j ≡ f j)
      → tab f' n ≡ put key (f' i) (tab f n)
  unfolding tab
  tab_put f f' zero i r h e k = absurd (omega arith)
  tab_put f f' (suc n) zero r h e k =
      ap (λ l. f' 0 ∷ l) (tab_same n (λ j. f (suc j)) (λ j. f' (suc j)) (λ j l. k (suc j) (omega arith) (λ z. omega arith)))
      ∙ sym (put_here key (f' 0) (f 0) (tab (λ j. f (suc j)) n) (sym e))
  tab_put f f' (suc n) (suc i) r h e k =
      let l : key (f 0) < key (f (suc i)) = r 0 (suc i) (omega arith) (omega arith) in
      rw (k 0 (omega arith) (λ z. omega arith))
      (ap (λ l. f 0 ∷ l) (tab_put (λ j. f (suc j)) (λ j. f' (suc j)) n i (rises_on f n r) (omega arith) e (λ j m ne. k (suc j) (omega arith) (λ z. ne (omega arith))))
      ∙ sym (put_later key (f' (suc i)) (f 0) (tab (λ j. f (suc j)) n) (omega arith)))

  -- One row put between: those before it have smaller keys, the others larger ones and move up.
  pub tab_insert : (f f' : ℕ → A) (n p : ℕ) → p ≤ n → ((j : ℕ) → j < p → key (f j) < key (f' p)) → ((j : ℕ) → p ≤ j → j < n → key (f' p) < key (f j))
      → ((j : ℕ) → j < p → f' j ≡ f j) → ((j : ℕ) → p ≤ j → j < n → f' (suc j) ≡ f j) → tab f' (suc n) ≡ put key (f' p) (tab f n)
  unfolding tab
  tab_insert f f' zero zero h lo hi b a = sym (put_end key (f' 0))
  tab_insert f f' zero (suc p) h lo hi b a = absurd (omega arith)
  tab_insert f f' (suc n) zero h lo hi b a =
      ap (λ l. f' 0 ∷ l) (tab_same (suc n) f (λ j. f' (suc j)) (λ j l. a j (omega arith) l))
      ∙ sym (put_before key (f' 0) (f 0) (tab (λ j. f (suc j)) n) (hi 0 (omega arith) (omega arith)))
  tab_insert f f' (suc n) (suc p) h lo hi b a =
      rw (b 0 (omega arith))
      (ap (λ l. f 0 ∷ l) (tab_insert (λ j. f (suc j)) (λ j. f' (suc j)) n p (omega arith) (λ j l. lo (suc j) (omega arith)) (λ j l m. hi (suc j) (omega arith) (omega arith)) (λ j l. b (suc j) (omega arith)) (λ j l m. a (suc j) (omega arith) (omega arith)))
      ∙ sym (put_later key (f' (suc p)) (f 0) (tab (λ j. f (suc j)) n) (lo 0 (omega arith))))

  pub tab_rising : (f : ℕ → A) (n : ℕ) → Rises f n → Rising key (tab f n)
  unfolding tab
  tab_rising f zero r = tt
  tab_rising f (suc n) r = (after (key (f 0)) (λ j. f (suc j)) n (λ j l. r 0 (suc j) (omega arith) (omega arith)), tab_rising (λ j. f (suc j)) n (rises_on f n r))
    where
      after : (k : ℕ) (g : ℕ → A) (m : ℕ) → ((j : ℕ) → j < m → k < key (g j)) → After key k (tab g m)
      after k g zero h = tt
      after k g (suc m) h = (h 0 (omega arith), after k (λ j. g (suc j)) m (λ j l. h (suc j) (omega arith)))
