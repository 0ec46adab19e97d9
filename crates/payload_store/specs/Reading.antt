-- Reading a part of a payload: its test, and what it leaves, for any words and any store. Assumes nothing.
use Rattle.std.specs.Prelude.{List, ◌++◌, ℕ, ◌-◌, ltb, leb, eqb, length, take, drop}
use Rattle.queue_words.specs.Flags.{pick}
use Rattle.payload_store.specs.Words.{place_of, size_of}
use Rattle.payload_store.specs.Good.{payload_of}

-- may n bytes from `off` on of row i's payload be copied to `room` bytes: 0, else 16
unfoldable pub read_code : List ℕ → ℕ → ℕ → ℕ → ℕ → ℕ → ℕ
read_code ws len i off n room =
    pick (leb 1024 i) 16
    (pick (ltb len (size_of ws i)) 16
    (pick (ltb (len - size_of ws i) (place_of ws i)) 16
    (pick (ltb (size_of ws i) off) 16
    (pick (ltb (size_of ws i - off) n) 16
    (pick (ltb room n) 16 0)))))

-- "The fragment is the part of the stored payload that starts at the offset"; "places past what a call writes stay unchanged".
-- dst with those bytes at its start; refused, it is as it was
unfoldable pub read_part : List ℕ → List ℕ → ℕ → ℕ → ℕ → List ℕ → List ℕ
read_part ws st i off n dst =
    pick (eqb (read_code ws (length st) i off n (length dst)) 0) (take n (drop off (payload_of ws st i)) ++ drop n dst) dst
