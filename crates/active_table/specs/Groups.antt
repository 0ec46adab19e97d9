-- The choice in two levels: the least of the groups' least rows, where they are known. Assumes nothing.
use Rattle.std.specs.Prelude.{ℕ, zero, suc, ◌+◌, ◌-◌, ◌*◌, ◌/◌, ◌≤◌, ◌<◌, min, ◌≡◌, Bool, List, ltb, leb}
use Rattle.std.specs.Prelude.{if◌then◌else◌}
use Rattle.queue_words.specs.Active.{active_at}
use Rattle.queue_words.specs.Header.{scheduler_at}
use Rattle.queue_words.specs.Leasts.{least_at, put_least}
use Rattle.active_table.specs.Parts.{rows_from}
use Rattle.active_table.specs.Rows.{best_of, better, best_among, best_to}
use Rattle.active_table.specs.declared.Best.{Best}

-- How many groups n rows have, and how many of the n stand in group g, from row g * 24 on.
abbrev pub groups_of : ℕ → ℕ
groups_of n = (n + 23) / 24

abbrev pub count_in : ℕ → ℕ → ℕ
count_in g n = min 24 (n - g * 24)

-- A row of the queue in the search for the least.
abbrev pub best_at : List ℕ → ℕ → Best
best_at ws i = best_of (active_at ws i) i

-- ------------------------------------------------------------------ the choice

-- The best of `start` and group g: its least row where the word has a place in the group, else the best of its rows, which is stale.
unfoldable pub best_in : List ℕ → ℕ → ℕ → Best → Best
best_in ws n g start =
    if ltb (least_at ws g) (count_in g n) then better start (best_at ws (g * 24 + least_at ws g)) else best_among (rows_from ws (g * 24)) start (g * 24) (count_in g n)

-- The best of row 0 and the first k groups.
unfoldable pub best_over : List ℕ → ℕ → ℕ → Best
best_over ws n zero = best_at ws 0
best_over ws n (suc k) = best_in ws n k (best_over ws n k)

-- So few rows are searched as they are.
abbrev pub few : ℕ
few = 48

-- The least of n rows.
unfoldable pub least_known : List ℕ → ℕ → Best
least_known ws n = if leb n few then best_to ws (n - 1) else best_over ws n (groups_of n)

-- ------------------------------------------------------------------ a group made fresh

-- Whether group g is fresh.
abbrev pub is_fresh : List ℕ → ℕ → ℕ → Bool
is_fresh ws n g = ltb (least_at ws g) (count_in g n)

-- The first stale one of the k groups from g on, or the group behind them.
unfoldable pub stale_from : List ℕ → ℕ → ℕ → ℕ → ℕ
stale_from ws n g zero = g
stale_from ws n g (suc k) = if is_fresh ws n g then stale_from ws n (suc g) k else g

-- The least row of group g.
unfoldable pub least_in : List ℕ → ℕ → ℕ → Best
least_in ws n g = best_among (rows_from ws (g * 24)) (best_at ws (g * 24)) (g * 24) (count_in g n)

unfoldable pub refreshed_at : List ℕ → ℕ → ℕ → List ℕ
refreshed_at ws n g = put_least ws g ((least_in ws n g).at - g * 24)

-- The words with group g made fresh, if n rows have it.
unfoldable pub group_fresh : List ℕ → ℕ → ℕ → List ℕ
group_fresh ws n g = if ltb g (groups_of n) then refreshed_at ws n g else ws

-- The words with the group of the row `at` made fresh, and then the first stale one, where there are more rows than a few.
unfoldable pub refreshed : List ℕ → ℕ → List ℕ
refreshed ws at =
    let n = (scheduler_at ws).active in
    let us = group_fresh ws n (at / 24) in
    if ltb 256 n then ws else if leb n few then ws else group_fresh us n (stale_from us n 0 (groups_of n))

-- ------------------------------------------------------------------ when the words are right

-- "the smallest finish time, then the smallest id": one comes before the other, or is its like.
pub data AtMost (a b : Best) : Type 0 where
  sooner : a.finish < b.finish → AtMost a b
  level : a.finish ≡ b.finish → a.id ≤ b.id → AtMost a b

-- Where the word of a group has a place in it, that row is at most each of the group's, of n rows.
abbrev pub Leasts : List ℕ → ℕ → Type 0
Leasts ws n = (g : ℕ) → least_at ws g < count_in g n → (j : ℕ) → j < count_in g n → AtMost (best_at ws (g * 24 + least_at ws g)) (best_at ws (g * 24 + j))
