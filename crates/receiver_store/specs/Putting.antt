-- Putting a payload: its test, and what it leaves, for any words and any store. Assumes nothing.
use Rattle.std.specs.Prelude.{List, ℕ, ◌+◌, ◌-◌, ltb, leb, length}
use Rattle.queue_words.specs.Flags.{pick}
use Rattle.payload_store.specs.Putting.{Outcome, outcome, written}
use Rattle.receiver_words.specs.Tables.{Header, Links, put_word}
use Rattle.receiver_store.specs.Words.{used_of, end_of}
use Rattle.receiver_store.specs.Packing.{pack_code, packed}

-- "23 when the payload is longer than the free store"; "free bytes count together, however scattered": judged by the used bytes, not by the end.
-- may a payload of n bytes be put into a store of len bytes: 0, 23 no room, 16 damaged
unfoldable pub room_code : List ℕ → ℕ → ℕ → ℕ
room_code ws len n =
    pick (ltb len (used_of ws)) 16
    (pick (ltb (len - used_of ws) n) 23
    (pick (ltb len (end_of ws)) 16
    (pick (leb n (len - end_of ws)) 0
    (pack_code ws len n))))

-- row i's payload is bs, put at the end of the used part
unfoldable pub placed : List ℕ → List ℕ → ℕ → List ℕ → Outcome
placed ws st i bs =
    outcome 0
    (put_word Header (put_word Header (put_word Links (put_word Links ws i 0 (end_of ws)) i 1 (length bs)) 0 5 (used_of ws + length bs)) 0 6 (end_of ws + length bs))
    (written st (end_of ws) bs)

-- the whole call: where the end has no room, the payloads are first moved together; refused, it leaves words and store as they were
unfoldable pub put_payload : List ℕ → List ℕ → ℕ → List ℕ → Outcome
put_payload ws st i bs =
    pick (ltb 0 (room_code ws (length st) (length bs))) (outcome (room_code ws (length st) (length bs)) ws st)
    (pick (leb (length bs) (length st - end_of ws)) (placed ws st i bs)
    (placed (packed ws st (length bs)).words (packed ws st (length bs)).store i bs))
