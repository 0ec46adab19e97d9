-- Rows in ascending order of a number that tells them apart, their key. The known streams are such a table (by id), and so are the scheduler's entries
-- (by stream id). Assumes nothing.
use Rattle.std.specs.Prelude.{List, [], ◌∷◌, ℕ, ◌+◌, ◌<◌, eqb, ltb}
use Rattle.std.proofs.Math.Option.{Option, none, some}
use Rattle.std.specs.Prelude.{if◌then◌else◌}

-- The row of a key, if there is one.
unfoldable pub find : {A : Type 0} → (A → ℕ) → ℕ → List A → Option A
find key k [] = none
find key k (x ∷ xs) = if eqb (key x) k then some x else find key k xs

-- The table with one row set: in the place of the row with its key, else in its place by order.
unfoldable pub put : {A : Type 0} → (A → ℕ) → A → List A → List A
put key x [] = x ∷ []
put key x (y ∷ ys) = if ltb (key y) (key x) then y ∷ put key x ys else if eqb (key y) (key x) then x ∷ ys else x ∷ y ∷ ys

-- The table without the row of a key.
unfoldable pub without : {A : Type 0} → (A → ℕ) → ℕ → List A → List A
without key k [] = []
without key k (x ∷ xs) = let rest = without key k xs in if eqb (key x) k then rest else x ∷ rest

-- The sum of a measure over the rows.
abbrev pub sum_by : {A : Type 0} → (A → ℕ) → List A → ℕ
sum_by f [] = 0
sum_by f (x ∷ xs) = f x + sum_by f xs

-- ------------------------------------------------------------------ what a table is

-- A property of every row.
abbrev pub Every : {A : Type 0} → (A → Type 0) → List A → Type 0
Every P [] = Unit {0}
Every P (x ∷ xs) = P x × Every P xs

-- Every key is above k; and the keys rise, so that no two rows have the same.
abbrev pub After : {A : Type 0} → (A → ℕ) → ℕ → List A → Type 0
After key k [] = Unit {0}
After key k (x ∷ xs) = (k < key x) × After key k xs

abbrev pub Rising : {A : Type 0} → (A → ℕ) → List A → Type 0
Rising key [] = Unit {0}
Rising key (x ∷ xs) = After key (key x) xs × Rising key xs
