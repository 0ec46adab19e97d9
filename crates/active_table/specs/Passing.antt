-- Four rows of the queue seen at once: whether the search for the least may pass them by. Assumes nothing.
use Rattle.std.specs.Prelude.{ℕ, zero, suc, min, Bool, true, false, ◌&&◌, ◌||◌, List, eqb, ltb}
use Rattle.std.specs.Prelude.{if◌then◌else◌}
use Rattle.queue_words.specs.declared.active.ActiveStreamInfo.{ActiveStreamInfo}
use Rattle.active_table.specs.Parts.{rows_from}
use Rattle.active_table.specs.declared.Best.{Best}

-- When a row finishes.
abbrev pub finish_of : (ℕ → ActiveStreamInfo) → ℕ → ℕ
finish_of rows k = (rows k).virtual_finish_time

-- The latest time there is, and the earliest finish time of n rows; of none, the latest.
abbrev pub latest : ℕ
latest = 18446744073709551615

unfoldable pub soonest : (ℕ → ActiveStreamInfo) → ℕ → ℕ
soonest rows zero = latest
soonest rows (suc n) = min (soonest rows n) (finish_of rows n)

-- None of the ids of the n rows from i on is below this one.
unfoldable pub ids_behind_words : (ℕ → ActiveStreamInfo) → ℕ → ℕ → ℕ → Bool
ids_behind_words rows id i zero = true
ids_behind_words rows id i (suc n) = if ltb (rows i).stream_id.0 id then false else ids_behind_words rows id (suc i) n

-- "the smallest finish time, then the smallest id": the four rows finish later than the best so far; or the earliest of them finishes with it,
-- and none of their ids is below its own.
unfoldable pub four_behind : List ℕ → ℕ → Best → Bool
four_behind ws from best = ltb best.finish (soonest (rows_from ws from) 4) || (eqb (soonest (rows_from ws from) 4) best.finish && ids_behind_words (rows_from ws from) best.id 0 4)
