-- The invariant of the payload store. Assumes nothing.
use Rattle.std.specs.Prelude.{◌≡◌, ◌⊎◌, List, ℕ, zero, suc, ◌+◌, ◌≤◌, ◌<◌, length, take, drop}
use Rattle.queue_words.specs.declared.header.Gaps.{Gaps}
use Rattle.payload_store.specs.Words.{used_of, gaps_of, place_of, size_of}

-- row i's payload
unfoldable pub payload_of : List ℕ → List ℕ → ℕ → List ℕ
payload_of ws st i = take (size_of ws i) (drop (place_of ws i) st)

unfoldable pub sum_to : (ℕ → ℕ) → ℕ → ℕ
sum_to g zero = 0
sum_to g (suc n) = g n + sum_to g n

-- the payloads of two rows have no byte in common
abbrev pub Apart : List ℕ → Type 0
Apart ws = (i j : ℕ) → i < 1024 → j < 1024 → (i ≡ j → ⊥) → 1 ≤ size_of ws i → 1 ≤ size_of ws j
    → (place_of ws i + size_of ws i ≤ place_of ws j) ⊎ (place_of ws j + size_of ws j ≤ place_of ws i)

-- every payload lies below a, or at or above b
abbrev pub ClearOf : List ℕ → ℕ → ℕ → Type 0
ClearOf ws a b = (i : ℕ) → i < 1024 → 1 ≤ size_of ws i → (place_of ws i + size_of ws i ≤ a) ⊎ (b ≤ place_of ws i)

-- the payloads lie in the store, apart from each other and clear of the gaps, which are apart too; a row without one has its place in the store as well
pub record Lay (ws st : List ℕ) (g : Gaps) : Type 0 where
  pub long : length ws ≡ 20768
  pub limit_in : g.limit ≤ length st
  pub end_in : g.end ≤ g.limit
  pub upto_in : g.upto ≤ length st
  pub from_in : g.from ≤ g.upto
  pub beside : (g.upto ≤ g.end) ⊎ ((g.limit ≤ g.from) × (g.from < g.upto))
  pub inside : (i : ℕ) → i < 1024 → place_of ws i + size_of ws i ≤ length st
  pub clear : ClearOf ws g.end g.limit
  pub aside : ClearOf ws g.from g.upto
  pub apart : Apart ws
  pub used_is : used_of ws ≡ sum_to (size_of ws) 1024

abbrev pub GoodPayloads : List ℕ → List ℕ → Type 0
GoodPayloads ws st = Lay ws st (gaps_of ws)
