-- Reading a payload, and comparing one: what is answered and left, for any words and any store. Assumes nothing.
use Rattle.std.specs.Prelude.{List, ℕ, ◌-◌, ltb, eqb, length}
use Rattle.queue_words.specs.Flags.{pick}
use Rattle.payload_store.specs.Putting.{written}
use Rattle.receiver_model.specs.Lists.{same_list}
use Rattle.receiver_store.specs.Words.{place_of, size_of, payload_of}
use Rattle.receiver_store.specs.Packing.{misplaced}

-- may row i's payload be copied to the places from `at` on of `room` bytes: 0, else 16
unfoldable pub read_code : List ℕ → ℕ → ℕ → ℕ → ℕ → ℕ
read_code ws len i room at =
    pick (misplaced 0 len (place_of ws i) (size_of ws i)) 16
    (pick (ltb room at) 16
    (pick (ltb (room - at) (size_of ws i)) 16 0))

-- dst with the payload from `at` on; refused, it is as it was
unfoldable pub read_payload : List ℕ → List ℕ → ℕ → List ℕ → ℕ → List ℕ
read_payload ws st i dst at = pick (eqb (read_code ws (length st) i (length dst) at) 0) (written dst at (payload_of ws st i)) dst

-- "24 when a fragment at a TSN already held differs in payload": 0 where row i's payload is bs, 24 where it differs, 16 where it lies outside the store
unfoldable pub same_code : List ℕ → List ℕ → ℕ → List ℕ → ℕ
same_code ws st i bs = pick (misplaced 0 (length st) (place_of ws i) (size_of ws i)) 16 (pick (same_list (payload_of ws st i) bs) 0 24)
