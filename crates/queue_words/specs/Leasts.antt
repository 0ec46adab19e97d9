-- The least rows of the scheduler's table: words 21 to 31, one for each group of 24 rows. Assumes nothing.
use Rattle.std.specs.Prelude.{ℕ, ◌+◌, ◌/◌, min, List, get_or, set}
use Rattle.queue_words.specs.Rows.{row}

-- the group of a row: the rows stand in groups of 24, and the last of the 11 has what is left
abbrev pub group_of : ℕ → ℕ
group_of i = min (i / 24) 10

-- the word of a group whose least row is not known: no place in a group
abbrev pub stale : ℕ
stale = 24

-- the words of all groups, and that of one: the place of its least row in the group, or that it is not known
unfoldable pub leasts_at : List ℕ → List ℕ
leasts_at ws = row ws 21 11

abbrev pub least_at : List ℕ → ℕ → ℕ
least_at ws g = get_or (leasts_at ws) g 0

-- the words with v for group g
unfoldable pub put_least : List ℕ → ℕ → ℕ → List ℕ
put_least ws g v = set ws (21 + g) v
