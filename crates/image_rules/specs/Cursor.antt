-- How the streams that no record names are counted: a place among the records that only moves on, since the ids of both rise. Assumes nothing.
use Rattle.std.specs.Prelude.{ℕ, zero, suc, ◌+◌, ◌-◌, ◌*◌, ◌<◌, Bool, false, List, eqb, ltb}
use Rattle.queue_words.specs.Flags.{pick}
use Rattle.handover_records.specs.Records.{stream_at_words}
use Rattle.image_rules.specs.declared.code.Counted.{Counted}

-- "ids rise": of so many stream records.
abbrev pub IdsRise : List ℕ → ℕ → Type 0
IdsRise bs records = (i j : ℕ) → i < j → j < records → (stream_at_words bs (14 * i)).id < (stream_at_words bs (14 * j)).id

-- How many of n records from `at` on come before the first whose id is not below this one.
unfoldable pub below : List ℕ → ℕ → ℕ → ℕ → ℕ
below bs id at zero = 0
below bs id at (suc n) = pick (ltb (stream_at_words bs at).id id) (below bs id (at + 14) n + 1) 0

-- The place of that record, from place k on.
unfoldable pub moved_on_words : List ℕ → ℕ → ℕ → ℕ → ℕ
moved_on_words bs records k id = k + below bs id (14 * k) (records - k)

-- Whether the record in place k is of this stream.
unfoldable pub named_at : List ℕ → ℕ → ℕ → ℕ → Bool
named_at bs records k id = pick (ltb k records) (eqb (stream_at_words bs (14 * k)).id id) false

abbrev pub counted : ℕ → ℕ → Counted
counted k more = record { place = k; more = more }

-- The next place, and 1 for the first message of a stream that no record names; `least` is one above the id before.
unfoldable pub one_counted : List ℕ → ℕ → ℕ → ℕ → ℕ → Counted
one_counted bs records k least id =
    pick (ltb id least) (counted k 0)
    (pick (named_at bs records (moved_on_words bs records k id) id) (counted (moved_on_words bs records k id) 0) (counted (moved_on_words bs records k id) 1))
