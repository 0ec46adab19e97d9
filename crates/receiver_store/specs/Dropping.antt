-- Dropping a payload: its test, and what it leaves, for any words. Assumes nothing.
use Rattle.std.specs.Prelude.{List, ℕ, ◌+◌, ◌-◌, ltb, leb}
use Rattle.queue_words.specs.Flags.{pick}
use Rattle.receiver_words.specs.Tables.{Header, put_word}
use Rattle.receiver_words.specs.Ages.{newest}
use Rattle.receiver_store.specs.Words.{place_of, size_of, used_of, end_of}
use Rattle.receiver_store.specs.Packing.{misplaced}

-- 16: "an amount would fall below 0".
-- may row i's bytes be freed: 0, else 16
unfoldable pub drop_code_words : List ℕ → ℕ → ℕ
drop_code_words ws i = pick (ltb (used_of ws) (size_of ws i)) 16 0

-- where the payload of the newest held row ends: 0 where none is held; the end stays where that is not in the used part
unfoldable pub held_end : List ℕ → ℕ
held_end ws =
    pick (leb 4096 (newest ws)) 0
    (pick (misplaced 0 (end_of ws) (place_of ws (newest ws)) (size_of ws (newest ws))) (end_of ws)
    (place_of ws (newest ws) + size_of ws (newest ws)))

-- row i's bytes are free, and the used part ends with the newest row
unfoldable pub released : List ℕ → ℕ → List ℕ
released ws i = put_word Header (put_word Header ws 0 5 (used_of ws - size_of ws i)) 0 6 (held_end ws)

-- the whole call; refused, it leaves the words as they were
unfoldable pub drop_payload : List ℕ → ℕ → List ℕ
drop_payload ws i = pick (ltb 0 (drop_code_words ws i)) ws (released ws i)
