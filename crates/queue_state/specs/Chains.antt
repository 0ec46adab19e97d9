-- Chains of places. `nx` gives the next place of a place; 1024 is the end. Nothing here speaks of words. Assumes nothing.
use Rattle.std.specs.Prelude.{◌≡◌, List, [], ◌∷◌, ℕ, zero, suc, ◌+◌, ◌<◌, eqb, ltb, length}
use Rattle.queue_words.specs.Flags.{pick}
unfoldable pub use Rattle.payload_store.specs.Good.{sum_to}

-- the places that are reached from p, at most n of them: what a reader computes
unfoldable pub chain : (ℕ → ℕ) → ℕ → ℕ → List ℕ
chain nx p zero = []
chain nx p (suc n) = pick (ltb p 1024) (p ∷ chain nx (nx p) n) []

-- from p on, the places ps and then the end: what a proof works with
abbrev pub Linked : (ℕ → ℕ) → ℕ → List ℕ → Type 0
Linked nx p [] = p ≡ 1024
Linked nx p (x ∷ xs) = (p ≡ x) × (x < 1024) × Linked nx (nx x) xs

-- the last place, d where there is none
abbrev pub last_of : ℕ → List ℕ → ℕ
last_of d [] = d
last_of d (x ∷ xs) = last_of x xs

-- 1 if the two are one place, else 0. Shut: a number to omega
unfoldable pub hit : ℕ → ℕ → ℕ
hit x y = pick (eqb x y) 1 0

-- how often x stands in the list
abbrev pub count : ℕ → List ℕ → ℕ
count x [] = 0
count x (y ∷ ys) = hit x y + count x ys

-- the sum of g over a list
abbrev pub sum_of : (ℕ → ℕ) → List ℕ → ℕ
sum_of g [] = 0
sum_of g (x ∷ xs) = g x + sum_of g xs

-- g over a list
abbrev pub each : {A : Type 0} → (ℕ → A) → List ℕ → List A
each g [] = []
each g (x ∷ xs) = g x ∷ each g xs

-- a family of lists with v in the place of the i-th
unfoldable pub upd : (ℕ → List ℕ) → ℕ → List ℕ → ℕ → List ℕ
upd q i v j = pick (eqb i j) v (q j)

-- the sum of a measure over the 256 lists of a family
unfoldable pub total : (List ℕ → ℕ) → (ℕ → List ℕ) → ℕ
total h q = sum_to (λ j. h (q j)) 256

-- 1 for a place of the table, else 0
unfoldable pub one : ℕ → ℕ
one x = pick (ltb x 1024) 1 0

-- the 256 lists q and the list fr hold each of the 1,024 places once, and nothing else
pub record Split (q : ℕ → List ℕ) (fr : List ℕ) : Type 0 where
  pub once : (x : ℕ) → count x fr + total (count x) q ≡ one x
  pub all : length fr + total length q ≡ 1024

-- n places from a on
unfoldable pub range : ℕ → ℕ → List ℕ
range a zero = []
range a (suc n) = a ∷ range (suc a) n
