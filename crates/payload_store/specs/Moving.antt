-- Moving the payloads together: what the code does, for any words and any store. Assumes nothing.
use Rattle.std.specs.Prelude.{List, ◌≡◌, ◌⊎◌, ℕ, zero, suc, ◌+◌, ◌*◌, ◌<◌, ltb, leb, eqb, length, get_or, set}
use Rattle.queue_words.specs.Flags.{pick}
use Rattle.queue_words.specs.Items.{put_place}
use Rattle.payload_store.specs.Words.{place_of, size_of}
use Rattle.payload_store.specs.Searching.{lies}

-- of the best row so far (1024: none) and row i: the one with a payload at or above the cursor whose place is least
unfoldable pub choose : List ℕ → ℕ → ℕ → ℕ → ℕ
choose ws cur b i =
    pick (eqb (size_of ws i) 0) b
    (pick (ltb (place_of ws i) cur) b
    (pick (leb 1024 b) i
    (pick (ltb (place_of ws i) (place_of ws b)) i b)))

-- among the first n rows
unfoldable pub least : List ℕ → ℕ → ℕ → ℕ
least ws cur zero = 1024
least ws cur (suc n) = choose ws cur (least ws cur n) n

-- among the n rows from a on
unfoldable pub least_in : List ℕ → ℕ → ℕ → ℕ → ℕ
least_in ws cur a zero = 1024
least_in ws cur a (suc n) = choose ws cur (least_in ws cur a n) (a + n)

-- of two rows (1024: none) the one whose payload comes first
unfoldable pub better : List ℕ → ℕ → ℕ → ℕ
better ws b c = pick (leb 1024 c) b (pick (leb 1024 b) c (pick (ltb (place_of ws c) (place_of ws b)) c b))

-- what is kept of group g, the 32 rows from g * 32 on: nothing, a row that lies below the cursor, or its least row
abbrev pub Hint : List ℕ → ℕ → ℕ → ℕ → Type 0
Hint ws cur g b = (1024 < b) ⊎ (((b < 1024) × (place_of ws b < cur)) ⊎ (least_in ws cur (g * 32) 32 ≡ b))

pub record Hints (ws : List ℕ) (cur : ℕ) (ks : List ℕ) : Type 0 where
  pub long : length ks ≡ 32
  pub each : (g : ℕ) → g < 32 → Hint ws cur g (get_or ks g 0)

-- of the first n groups the least rows are kept
pub record Exact (ws : List ℕ) (cur n : ℕ) (ks : List ℕ) : Type 0 where
  pub long : length ks ≡ 32
  pub each : (g : ℕ) → g < n → least_in ws cur (g * 32) 32 ≡ get_or ks g 0

-- k bytes from `from` on, copied upwards, one by one, to `to`
unfoldable pub moved : List ℕ → ℕ → ℕ → ℕ → List ℕ
moved st from to zero = st
moved st from to (suc k) = set (moved st from to k) (to + k) (get_or (moved st from to k) (from + k) 0)

-- the words, the store, and the cursor up to which the payloads lie together
pub record Pack : Type 0 where
  pub words : List ℕ
  pub store : List ℕ
  pub cursor : ℕ

abbrev pub pack : List ℕ → List ℕ → ℕ → Pack
pack ws st cur = record { words = ws; store = st; cursor = cur }

-- row r's payload goes to the cursor; no row, or a payload outside the store: nothing is left to do
unfoldable pub turn_at : Pack → ℕ → Pack
turn_at s r =
    pick (leb 1024 r) s
    (pick (lies (place_of s.words r) (size_of s.words r) (length s.store))
    (pack (put_place s.words r s.cursor)
    (moved s.store (place_of s.words r) s.cursor (size_of s.words r))
    (s.cursor + size_of s.words r))
    s)

unfoldable pub turn : Pack → Pack
turn s = turn_at s (least s.words s.cursor 1024)

unfoldable pub turns : Pack → ℕ → Pack
turns s zero = s
turns s (suc k) = turn (turns s k)

-- as many turns as the store has bytes: never more are needed
unfoldable pub together : List ℕ → List ℕ → Pack
together ws st = turns (pack ws st 0) (length st)
