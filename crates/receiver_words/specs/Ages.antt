-- Chains of rows as lists, beyond `Linked`: the age chain, which goes both ways, and the chain of messages, which has a last one. Assumes nothing.
use Rattle.std.specs.Prelude.{◌≡◌, not, List, [], ◌∷◌, ℕ, ◌+◌, ◌<◌, eqb}
use Rattle.receiver_model.specs.Lists.{keep}
use Rattle.receiver_words.specs.Tables.{Header, Links, word_at}
use Rattle.receiver_words.specs.Link.{Linked}

-- the rows but row i, in their order
abbrev pub without : ℕ → List ℕ → List ℕ
without i xs = keep (λ (x : ℕ). not (eqb x i)) xs

-- the last of some rows, d where there is none
abbrev pub last_row : ℕ → List ℕ → ℕ
last_row d [] = d
last_row d (x ∷ xs) = last_row x xs

-- a chain both ways: p is the first of xs, each is followed by the next, and `back` leads from each to the one before it, from the first to q; `last` is
-- the last one, q where there is none
abbrev pub Both : (ℕ → ℕ) → (ℕ → ℕ) → ℕ → ℕ → ℕ → List ℕ → Type 0
Both next back q p last [] = (p ≡ 4096) × (last ≡ q)
Both next back q p last (x ∷ xs) = (p ≡ x) × (x < 4096) × (back x ≡ q) × Both next back x (next x) last xs

-- the held rows accepted before and after row x, the newest and the oldest one
abbrev pub older : List ℕ → ℕ → ℕ
older ws x = word_at Links ws x 3

abbrev pub newer : List ℕ → ℕ → ℕ
newer ws x = word_at Links ws x 4

abbrev pub newest : List ℕ → ℕ
newest ws = word_at Header ws 0 8

abbrev pub oldest : List ℕ → ℕ
oldest ws = word_at Header ws 0 9

-- the held rows are xs, newest first
abbrev pub Aged : List ℕ → List ℕ → Type 0
Aged ws xs = Both (older ws) (newer ws) 4096 (newest ws) (oldest ws) xs

-- the messages of the chain whose first and last are words k and k + 1 of the header are xs, by their first rows
abbrev pub Lined : List ℕ → ℕ → List ℕ → Type 0
Lined ws k xs = Linked (λ (x : ℕ). word_at Links ws x 7) (word_at Header ws 0 k) xs × (word_at Header ws 0 (k + 1) ≡ last_row 4096 xs)
