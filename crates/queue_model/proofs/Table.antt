-- The laws of tables (specs/Table): finding after putting and after taking out, rows in ascending order, sums; and that what is found tells the table.
-- Assumes nothing.
use mathlib.Core.Path.{◌≡◌, refl, sym, ap, ap₂, ◌∙◌, subst}
use mathlib.Core.Bool.{Bool}
use mathlib.Core.List.{List, [], ◌∷◌, ◌++◌, map}
use mathlib.Core.Option.{Option, none, some}
use Prim.Native.Nat.{ℕ, suc, ◌+◌, ◌≤◌, ◌<◌}
use native.Mathlib.Omega.{arith}
use lib.Dec.{eqb}
use lib.ListN.{length}
use Rattle.std.specs.Prelude.{if◌then◌else◌}
use Rattle.queue_model.specs.Table.{find, put, without, sum_by}
pub use Rattle.queue_model.specs.Table.{Every, After, Rising}
use Rattle.queue_model.proofs.Tests.{ltb_true, ltb_false, eqb_true, eqb_false, less, same, more, tri}

-- A list is empty or has a first element.
pub data Split {A : Type 0} (xs : List A) : Type 0 where
  empty : xs ≡ [] → Split xs
  first : (x : A) (rest : List A) → xs ≡ x ∷ rest → Split xs

pub split : {A : Type 0} (xs : List A) → Split xs
split [] = empty refl
split (x ∷ xs) = first x xs refl

module _ {A : Type 0} (key : A → ℕ) where
  -- ---- the clauses as equations

  pub find_nil : (k : ℕ) → find key k [] ≡ none
  unfolding find
  find_nil k = refl

  pub find_here : (k : ℕ) (x : A) (xs : List A) → key x ≡ k → find key k (x ∷ xs) ≡ some x
  unfolding find
  find_here k x xs e = ap (λ (b : Bool). if b then some x else find key k xs) (eqb_true e)

  pub find_there : (k : ℕ) (x : A) (xs : List A) → (key x ≡ k → ⊥) → find key k (x ∷ xs) ≡ find key k xs
  unfolding find
  find_there k x xs n = ap (λ (b : Bool). if b then some x else find key k xs) (eqb_false n)

  pub put_end : (x : A) → put key x [] ≡ x ∷ []
  unfolding put
  put_end x = refl

  pub put_later : (x y : A) (ys : List A) → key y < key x → put key x (y ∷ ys) ≡ y ∷ put key x ys
  unfolding put
  put_later x y ys h = ap (λ (b : Bool). if b then y ∷ put key x ys else if eqb (key y) (key x) then x ∷ ys else x ∷ y ∷ ys) (ltb_true h)

  not_later : (x y : A) (ys : List A) → key x ≤ key y → put key x (y ∷ ys) ≡ (if eqb (key y) (key x) then x ∷ ys else x ∷ y ∷ ys)
  unfolding put
  not_later x y ys h = ap (λ (b : Bool). if b then y ∷ put key x ys else if eqb (key y) (key x) then x ∷ ys else x ∷ y ∷ ys) (ltb_false h)

  pub put_here : (x y : A) (ys : List A) → key y ≡ key x → put key x (y ∷ ys) ≡ x ∷ ys
  put_here x y ys e = not_later x y ys (omega arith) ∙ ap (λ (b : Bool). if b then x ∷ ys else x ∷ y ∷ ys) (eqb_true e)

  pub put_before : (x y : A) (ys : List A) → key x < key y → put key x (y ∷ ys) ≡ x ∷ y ∷ ys
  put_before x y ys h =
      let n : key y ≡ key x → ⊥ = λ e. omega arith in
      not_later x y ys (omega arith) ∙ ap (λ (b : Bool). if b then x ∷ ys else x ∷ y ∷ ys) (eqb_false n)

  pub without_nil : (k : ℕ) → without key k [] ≡ []
  unfolding without
  without_nil k = refl

  pub without_here : (k : ℕ) (x : A) (xs : List A) → key x ≡ k → without key k (x ∷ xs) ≡ without key k xs
  unfolding without
  without_here k x xs e = ap (λ (b : Bool). if b then without key k xs else x ∷ without key k xs) (eqb_true e)

  pub without_there : (k : ℕ) (x : A) (xs : List A) → (key x ≡ k → ⊥) → without key k (x ∷ xs) ≡ x ∷ without key k xs
  unfolding without
  without_there k x xs n = ap (λ (b : Bool). if b then without key k xs else x ∷ without key k xs) (eqb_false n)

  -- ---- a row is found or not, and has a key or another

  pub data Found (k : ℕ) (xs : List A) : Type 0 where
    found : (x : A) → find key k xs ≡ some x → Found k xs
    missing : find key k xs ≡ none → Found k xs

  pub look_up : (k : ℕ) (xs : List A) → Found k xs
  look_up k xs = go (find key k xs) refl
    where
      go : (o : Option A) → find key k xs ≡ o → Found k xs
      go none e = missing e
      go (some x) e = found x e

  pub data Own (x : A) (k : ℕ) : Type 0 where
    own : key x ≡ k → Own x k
    other : (key x ≡ k → ⊥) → Own x k

  pub is_own : (x : A) (k : ℕ) → Own x k
  is_own x k = elim (tri (key x) k) [ less l ↦ other (λ g. omega arith) | same g ↦ own g | more l ↦ other (λ g. omega arith) ]

  pub not_in_nil : (k : ℕ) (x : A) → find key k [] ≡ some x → ⊥
  not_in_nil k x e = let f = find_nil k in let z : ◌≡◌ {A = ℕ} 0 1 = cc in omega arith

  -- ---- finding after putting

  pub find_put_same : (x : A) (xs : List A) → find key (key x) (put key x xs) ≡ some x
  find_put_same x [] = ap (find key (key x)) (put_end x) ∙ find_here (key x) x [] refl
  find_put_same x (y ∷ ys) = elim (tri (key y) (key x)) [
    | less h ↦ (let n : key y ≡ key x → ⊥ = λ e. omega arith in ap (find key (key x)) (put_later x y ys h) ∙ find_there (key x) y (put key x ys) n ∙ find_put_same x ys)
    | same e ↦ ap (find key (key x)) (put_here x y ys e) ∙ find_here (key x) x ys refl
    | more h ↦ ap (find key (key x)) (put_before x y ys h) ∙ find_here (key x) x (y ∷ ys) refl
  ]

  pub find_cong : (k : ℕ) (x : A) (xs ys : List A) → find key k xs ≡ find key k ys → find key k (x ∷ xs) ≡ find key k (x ∷ ys)
  unfolding find
  find_cong k x xs ys e = ap (λ (o : Option A). if eqb (key x) k then some x else o) e

  pub find_put_other : (k : ℕ) (x : A) (xs : List A) → (key x ≡ k → ⊥) → find key k (put key x xs) ≡ find key k xs
  find_put_other k x [] n = ap (find key k) (put_end x) ∙ find_there k x [] n
  find_put_other k x (y ∷ ys) n = elim (tri (key y) (key x)) [
    | less h ↦ ap (find key k) (put_later x y ys h) ∙ find_cong k y (put key x ys) ys (find_put_other k x ys n)
    | same e ↦ ap (find key k) (put_here x y ys e) ∙ find_there k x ys n ∙ sym (find_there k y ys (λ f. n (sym e ∙ f)))
    | more h ↦ ap (find key k) (put_before x y ys h) ∙ find_there k x (y ∷ ys) n
  ]

  -- ---- finding after taking out

  pub find_without_same : (k : ℕ) (xs : List A) → find key k (without key k xs) ≡ none
  find_without_same k [] = ap (find key k) (without_nil k) ∙ find_nil k
  find_without_same k (x ∷ xs) = elim (is_own x k) [
    | own e ↦ ap (find key k) (without_here k x xs e) ∙ find_without_same k xs
    | other n ↦ ap (find key k) (without_there k x xs n) ∙ find_there k x (without key k xs) n ∙ find_without_same k xs
  ]

  pub find_without_other : (j k : ℕ) (xs : List A) → (j ≡ k → ⊥) → find key j (without key k xs) ≡ find key j xs
  find_without_other j k [] n = ap (find key j) (without_nil k)
  find_without_other j k (x ∷ xs) n = elim (is_own x k) [
    | own e ↦ ap (find key j) (without_here k x xs e) ∙ find_without_other j k xs n ∙ sym (find_there j x xs (λ f. n (sym f ∙ e)))
    | other m ↦ ap (find key j) (without_there k x xs m) ∙ find_cong j x (without key k xs) xs (find_without_other j k xs n)
  ]

  -- ---- rows in ascending order

  pub after_down : {j k : ℕ} (xs : List A) → j < k → After key k xs → After key j xs
  after_down [] h a = tt
  after_down (x ∷ xs) h a = let l = a.0 in (omega arith, after_down xs h a.1)

  pub after_put : (k : ℕ) (x : A) (xs : List A) → k < key x → After key k xs → After key k (put key x xs)
  after_put k x [] h a = subst (After key k) (sym (put_end x)) (h, tt)
  after_put k x (y ∷ ys) h a = elim (tri (key y) (key x)) [
    | less l ↦ subst (After key k) (sym (put_later x y ys l)) (a.0, after_put k x ys h a.1)
    | same e ↦ subst (After key k) (sym (put_here x y ys e)) (h, a.1)
    | more l ↦ subst (After key k) (sym (put_before x y ys l)) (h, a)
  ]

  pub rising_put : (x : A) (xs : List A) → Rising key xs → Rising key (put key x xs)
  rising_put x [] a = subst (Rising key) (sym (put_end x)) (tt, tt)
  rising_put x (y ∷ ys) a = elim (tri (key y) (key x)) [
    | less l ↦ subst (Rising key) (sym (put_later x y ys l)) (after_put (key y) x ys l a.0, rising_put x ys a.1)
    | same e ↦ subst (Rising key) (sym (put_here x y ys e)) (subst (λ (k : ℕ). After key k ys) e a.0, a.1)
    | more l ↦ subst (Rising key) (sym (put_before x y ys l)) ((l, after_down ys l a.0), a)
  ]

  after_without : (j k : ℕ) (xs : List A) → After key j xs → After key j (without key k xs)
  after_without j k [] a = subst (After key j) (sym (without_nil k)) tt
  after_without j k (x ∷ xs) a = elim (is_own x k) [
    | own g ↦ subst (After key j) (sym (without_here k x xs g)) (after_without j k xs a.1)
    | other n ↦ subst (After key j) (sym (without_there k x xs n)) (a.0, after_without j k xs a.1)
  ]

  pub rising_without : (k : ℕ) (xs : List A) → Rising key xs → Rising key (without key k xs)
  rising_without k [] r = subst (Rising key) (sym (without_nil k)) tt
  rising_without k (x ∷ xs) r = elim (is_own x k) [
    | own g ↦ subst (Rising key) (sym (without_here k x xs g)) (rising_without k xs r.1)
    | other n ↦ subst (Rising key) (sym (without_there k x xs n)) (after_without (key x) k xs r.0, rising_without k xs r.1)
  ]

  pub after_map : (f : A → A) (k : ℕ) (xs : List A) → ((x : A) → key (f x) ≡ key x) → After key k xs → After key k (map f xs)
  after_map f k [] i a = tt
  after_map f k (x ∷ xs) i a = (subst (λ (n : ℕ). k < n) (sym (i x)) a.0, after_map f k xs i a.1)

  pub rising_map : (f : A → A) (xs : List A) → ((x : A) → key (f x) ≡ key x) → Rising key xs → Rising key (map f xs)
  rising_map f [] i r = tt
  rising_map f (x ∷ xs) i r = (after_map f (key (f x)) xs i (subst (λ (k : ℕ). After key k xs) (sym (i x)) r.0), rising_map f xs i r.1)

  pub find_after : (k : ℕ) (xs : List A) → After key k xs → find key k xs ≡ none
  find_after k [] a = find_nil k
  find_after k (x ∷ xs) a = let l = a.0 in find_there k x xs (λ e. omega arith) ∙ find_after k xs a.1

  -- What is found has the key, and stands above what is below.
  pub find_key : (k : ℕ) (xs : List A) (x : A) → find key k xs ≡ some x → key x ≡ k
  find_key k [] x e = absurd (not_in_nil k x e)
  find_key k (y ∷ ys) x e = elim (is_own y k) [
    | own f ↦ (let g : y ≡ x = cc (find_here k y ys f) in ap key (sym g) ∙ f)
    | other n ↦ find_key k ys x (sym (find_there k y ys n) ∙ e)
  ]

  pub found_above : (k j : ℕ) (xs : List A) (x : A) → After key k xs → find key j xs ≡ some x → k < j
  found_above k j [] x a e = absurd (not_in_nil j x e)
  found_above k j (y ∷ ys) x a e = elim (is_own y j) [
    | own f ↦ (let l = a.0 in omega arith)
    | other n ↦ found_above k j ys x a.1 (sym (find_there j y ys n) ∙ e)
  ]

  -- Putting a row that is there already changes nothing.
  pub put_found : (x : A) (xs : List A) → Rising key xs → find key (key x) xs ≡ some x → put key x xs ≡ xs
  put_found x [] a e = absurd (not_in_nil (key x) x e)
  put_found x (y ∷ ys) a e = elim (tri (key y) (key x)) [
    | less h ↦ put_later x y ys h ∙ ap (λ (l : List A). y ∷ l) (put_found x ys a.1 (sym (find_there (key x) y ys (λ f. omega arith)) ∙ e))
    | same f ↦ (let g : y ≡ x = cc (find_here (key x) y ys f) in put_here x y ys f ∙ ap (λ (z : A). z ∷ ys) (sym g))
    | more h ↦ (let z : ◌≡◌ {A = ℕ} 0 1 = cc (find_after (key x) (y ∷ ys) (h, after_down ys h a.0)) in absurd (omega arith))
  ]

  -- ---- a property of every row

  pub every_put : (P : A → Type 0) (x : A) (xs : List A) → P x → Every P xs → Every P (put key x xs)
  every_put P x [] h a = subst (Every P) (sym (put_end x)) (h, tt)
  every_put P x (y ∷ ys) h a = elim (tri (key y) (key x)) [
    | less l ↦ subst (Every P) (sym (put_later x y ys l)) (a.0, every_put P x ys h a.1)
    | same e ↦ subst (Every P) (sym (put_here x y ys e)) (h, a.1)
    | more l ↦ subst (Every P) (sym (put_before x y ys l)) (h, a)
  ]

  pub every_find : (P : A → Type 0) (k : ℕ) (x : A) (xs : List A) → Every P xs → find key k xs ≡ some x → P x
  every_find P k x [] a e = absurd (not_in_nil k x e)
  every_find P k x (y ∷ ys) a e = elim (is_own y k) [
    | own f ↦ (let z : y ≡ x = cc (find_here k y ys f) in subst P z a.0)
    | other n ↦ every_find P k x ys a.1 (sym (find_there k y ys n) ∙ e)
  ]

  -- In a rising list every row is the one found by its key.
  pub every_own : (xs : List A) → Rising key xs → Every (λ x. find key (key x) xs ≡ some x) xs
  every_own [] r = tt
  every_own (x ∷ xs) r = (find_here (key x) x xs refl, below xs r.0 (every_own xs r.1))
    where
      below : (ys : List A) → After key (key x) ys → Every (λ y. find key (key y) xs ≡ some y) ys → Every (λ y. find key (key y) (x ∷ xs) ≡ some y) ys
      below [] a h = tt
      below (y ∷ ys) a h = (let l = a.0 in find_there (key y) x xs (λ g. omega arith) ∙ h.0, below ys a.1 h.1)

  -- ---- sums

  pub sum_put_new : (f : A → ℕ) (x : A) (xs : List A) → find key (key x) xs ≡ none → sum_by f (put key x xs) ≡ sum_by f xs + f x
  sum_put_new f x [] e = ap (sum_by f) (put_end x) ∙ omega arith
  sum_put_new f x (y ∷ ys) e = elim (tri (key y) (key x)) [
    | less h ↦ (let ih : sum_by f (put key x ys) ≡ sum_by f ys + f x = sum_put_new f x ys (sym (find_there (key x) y ys (λ g. omega arith)) ∙ e) in
        let c : f y + sum_by f (put key x ys) ≡ f y + sum_by f ys + f x = omega arith in ap (sum_by f) (put_later x y ys h) ∙ c)
    | same g ↦ (let z : ◌≡◌ {A = ℕ} 0 1 = cc (find_here (key x) y ys g) in absurd (omega arith))
    | more h ↦ (let c : f x + (f y + sum_by f ys) ≡ f y + sum_by f ys + f x = omega arith in ap (sum_by f) (put_before x y ys h) ∙ c)
  ]

  pub sum_put_old : (f : A → ℕ) (x x₀ : A) (xs : List A) → Rising key xs → find key (key x) xs ≡ some x₀ → sum_by f (put key x xs) + f x₀ ≡ sum_by f xs + f x
  sum_put_old f x x₀ [] a e = absurd (not_in_nil (key x) x₀ e)
  sum_put_old f x x₀ (y ∷ ys) a e = elim (tri (key y) (key x)) [
    | less h ↦ (let ih : sum_by f (put key x ys) + f x₀ ≡ sum_by f ys + f x = sum_put_old f x x₀ ys a.1 (sym (find_there (key x) y ys (λ g. omega arith)) ∙ e) in
        let c : f y + sum_by f (put key x ys) + f x₀ ≡ f y + sum_by f ys + f x = omega arith in ap (λ (l : List A). sum_by f l + f x₀) (put_later x y ys h) ∙ c)
    | same g ↦ (let z : y ≡ x₀ = cc (find_here (key x) y ys g) in
        let w : f y ≡ f x₀ = ap f z in
        let c : f x + sum_by f ys + f x₀ ≡ f y + sum_by f ys + f x = omega arith in ap (λ (l : List A). sum_by f l + f x₀) (put_here x y ys g) ∙ c)
    | more h ↦ (let z : ◌≡◌ {A = ℕ} 0 1 = cc (find_after (key x) (y ∷ ys) (h, after_down ys h a.0)) in absurd (omega arith))
  ]

  -- A row that is found counts in the sum.
  pub sum_find : (f : A → ℕ) (k : ℕ) (x : A) (xs : List A) → find key k xs ≡ some x → f x ≤ sum_by f xs
  sum_find f k x [] e = absurd (not_in_nil k x e)
  sum_find f k x (y ∷ ys) e = elim (is_own y k) [
    | own g ↦ (let z : y ≡ x = cc (find_here k y ys g) in let w : f y ≡ f x = ap f z in omega arith)
    | other n ↦ (let ih : f x ≤ sum_by f ys = sum_find f k x ys (sym (find_there k y ys n) ∙ e) in omega arith)
  ]

  -- ---- what is found tells the table

  -- Two tables in which every key finds the same are equal. So rows kept in another order, as a port may keep them, stand for one table.
  pub same_table : (xs ys : List A) → Rising key xs → Rising key ys → ((k : ℕ) → find key k xs ≡ find key k ys) → xs ≡ ys
  same_table [] [] a b f = refl
  same_table [] (y ∷ ys) a b f = let z : ◌≡◌ {A = ℕ} 0 1 = cc (f (key y), find_nil (key y), find_here (key y) y ys refl) in absurd (omega arith)
  same_table (x ∷ xs) [] a b f = let z : ◌≡◌ {A = ℕ} 0 1 = cc (f (key x), find_nil (key x), find_here (key x) x xs refl) in absurd (omega arith)
  same_table (x ∷ xs) (y ∷ ys) a b f = heads (same_table xs ys a.1 b.1) (tri (key x) (key y))
    where
      tails : ((g : (k : ℕ) → find key k xs ≡ find key k ys) → xs ≡ ys) → key x ≡ key y → x ∷ xs ≡ y ∷ ys
      tails ih e =
          let h : x ≡ y = cc (f (key x), find_here (key x) x xs refl, find_here (key x) y ys (sym e)) in
          let g : (k : ℕ) → find key k xs ≡ find key k ys = λ k. elim (is_own x k) [
            | own c ↦ find_after k xs (subst (λ (n : ℕ). After key n xs) c a.0) ∙ sym (find_after k ys (subst (λ (n : ℕ). After key n ys) (sym e ∙ c) b.0))
            | other n ↦ sym (find_there k x xs n) ∙ f k ∙ find_there k y ys (λ c. n (e ∙ c))
          ] in
          ap₂ ◌∷◌ h (ih g)

      heads : ((g : (k : ℕ) → find key k xs ≡ find key k ys) → xs ≡ ys) → Rattle.queue_model.proofs.Tests.Tri (key x) (key y) → x ∷ xs ≡ y ∷ ys
      heads ih (less l) = let z : ◌≡◌ {A = ℕ} 0 1 = cc (f (key x), find_here (key x) x xs refl, find_after (key x) (y ∷ ys) (l, after_down ys l b.0)) in absurd (omega arith)
      heads ih (same e) = tails ih e
      heads ih (more l) = let z : ◌≡◌ {A = ℕ} 0 1 = cc (f (key y), find_here (key y) y ys refl, find_after (key y) (x ∷ xs) (l, after_down xs l a.0)) in absurd (omega arith)

-- ---- laws that no key is needed for

pub every_map : {A : Type 0} (P Q : A → Type 0) (f : A → A) (xs : List A) → ((x : A) → P x → Q (f x)) → Every P xs → Every Q (map f xs)
every_map P Q f [] h a = tt
every_map P Q f (x ∷ xs) h a = (h x a.0, every_map P Q f xs h a.1)

pub every_weaken : {A : Type 0} (P Q : A → Type 0) (xs : List A) → ((x : A) → P x → Q x) → Every P xs → Every Q xs
every_weaken P Q [] h a = tt
every_weaken P Q (x ∷ xs) h a = (h x a.0, every_weaken P Q xs h a.1)

pub every_both : {A : Type 0} (P Q : A → Type 0) (xs : List A) → Every P xs → Every Q xs → Every (λ x. P x × Q x) xs
every_both P Q [] a b = tt
every_both P Q (x ∷ xs) a b = ((a.0, b.0), every_both P Q xs a.1 b.1)

pub every_snoc : {A : Type 0} (P : A → Type 0) (xs : List A) (x : A) → Every P xs → P x → Every P (xs ++ (x ∷ []))
every_snoc P [] x a h = (h, tt)
every_snoc P (y ∷ xs) x a h = (a.0, every_snoc P xs x a.1 h)

pub length_sum : {A : Type 0} (xs : List A) → length xs ≡ sum_by (λ x. 1) xs
length_sum [] = refl
length_sum (x ∷ xs) = let ih = length_sum xs in omega arith

pub length_map : {A : Type 0} (f : A → A) (xs : List A) → length (map f xs) ≡ length xs
length_map f [] = refl
length_map f (x ∷ xs) = ap suc (length_map f xs)

pub sum_map : {A : Type 0} (f : A → A) (g h : A → ℕ) (xs : List A) → ((x : A) → g (f x) ≡ h x) → sum_by g (map f xs) ≡ sum_by h xs
sum_map f g h [] e = refl
sum_map f g h (x ∷ xs) e = ap₂ ◌+◌ (e x) (sum_map f g h xs e)

-- A smaller measure of every row has a smaller sum.
pub sum_le : {A : Type 0} (P : A → Type 0) (f g : A → ℕ) (xs : List A) → ((x : A) → P x → f x ≤ g x) → Every P xs → sum_by f xs ≤ sum_by g xs
sum_le P f g [] h a = omega arith
sum_le P f g (x ∷ xs) h a = let u = h x a.0 in let v = sum_le P f g xs h a.1 in omega arith
