-- Dropping a payload: its test, and what it leaves, for any words. Assumes nothing.
use Rattle.std.specs.Prelude.{List, ℕ, ◌-◌, ltb, leb, eqb}
use Rattle.queue_words.specs.Flags.{pick}
use Rattle.queue_words.specs.Items.{put_length}
use Rattle.queue_words.specs.declared.header.Gaps.{Gaps}
use Rattle.payload_store.specs.Words.{used_of, gaps_of, place_of, size_of, put_bytes}
use Rattle.payload_store.specs.Gaps.{gaps, gaps_left}

-- may row i's payload be dropped: 0, else 16
unfoldable pub drop_code_words : List ℕ → ℕ → ℕ
drop_code_words ws i = pick (leb 1024 i) 16 (pick (eqb (size_of ws i) 0) 16 (pick (ltb (used_of ws) (size_of ws i)) 16 0))

-- the gaps grow by row i's payload; where nothing is used any more, they begin at 0
unfoldable pub gaps_then : List ℕ → ℕ → Gaps → Gaps
gaps_then ws i g = pick (eqb (used_of ws) (size_of ws i)) (gaps 0 g.limit 0 0) g

-- row i has none
unfoldable pub dropped : List ℕ → ℕ → List ℕ
dropped ws i = put_bytes (put_length ws i 0) (used_of ws - size_of ws i) (gaps_then ws i (gaps_left (gaps_of ws) (place_of ws i) (size_of ws i)))

-- the whole call; refused, it leaves the words as they were
unfoldable pub drop_payload : List ℕ → ℕ → List ℕ
drop_payload ws i = pick (eqb (drop_code_words ws i) 0) (dropped ws i) ws
