-- Moving the newest payloads together along the age chain: where it begins, its test, and what it leaves, for any words and any store. Assumes nothing.
use Rattle.std.specs.Prelude.{Bool, true, false, List, ℕ, zero, suc, ◌+◌, ◌-◌, ◌/◌, ltb, leb, eqb, length}
use Rattle.queue_words.specs.Flags.{pick}
use Rattle.payload_store.specs.Moving.{moved, Pack, pack}
use Rattle.payload_store.specs.Putting.{Outcome, outcome}
use Rattle.receiver_words.specs.Tables.{Header, Links, put_word}
use Rattle.receiver_words.specs.Ages.{older, newer, newest}
use Rattle.receiver_store.specs.Words.{place_of, size_of, used_of, end_of}
use Rattle.receiver_store.specs.declared.packing.Start.{Start}

-- 16: "a place kept in the state lies outside its table".
-- a payload begins below `low`, or does not lie in a store of len bytes
unfoldable pub misplaced : ℕ → ℕ → ℕ → ℕ → Bool
misplaced low len place size = pick (ltb place low) true (pick (ltb len size) true (ltb (len - size) place))

abbrev pub start : Bool → ℕ → ℕ → ℕ → Start
start found row cursor end = record { found = found; row = row; cursor = cursor; end = end }

abbrev pub nowhere : Start
nowhere = start false 4096 0 0

-- where the used part is to end before n bytes are put into a store of len bytes: half of the bytes that stay free are behind them then
unfoldable pub goal_of : ℕ → ℕ → ℕ → ℕ
goal_of used len n = used + (len - used - n) / 2

-- from row p down, the older ones, at most n of them: the first above which the rows, moved together, end at or below the goal. `row` is the one above
-- p, its payload begins at `high`, and the rows from it on have `sum` bytes.
-- None where the chain ends or goes in a circle before, or a payload does not lie below the one above it
unfoldable pub start_from : ℕ → List ℕ → ℕ → ℕ → ℕ → ℕ → ℕ → Start
start_from zero ws goal p row high sum = nowhere
start_from (suc n) ws goal p row high sum =
    pick (leb 4096 p) (start (leb sum goal) row 0 sum)
    (pick (misplaced 0 high (place_of ws p) (size_of ws p)) nowhere
    (pick (leb (place_of ws p + size_of ws p + sum) goal) (start true row (place_of ws p + size_of ws p) (place_of ws p + size_of ws p + sum))
    (start_from n ws goal (older ws p) p (place_of ws p) (sum + size_of ws p))))

-- from the newest row down
unfoldable pub start_of : List ℕ → ℕ → ℕ → Start
start_of ws len n = start_from 4097 ws (goal_of (used_of ws) len n) (newest ws) 4096 (end_of ws) 0

-- may the payloads be moved together for one of n bytes
unfoldable pub pack_code : List ℕ → ℕ → ℕ → ℕ
pack_code ws len n = pick (start_of ws len n).found 0 16

-- row p's payload goes down to the cursor, which passes it; one that lies there stays, and so does one that is misplaced
unfoldable pub move_row : Pack → ℕ → Pack
move_row s p =
    pick (misplaced s.cursor (length s.store) (place_of s.words p) (size_of s.words p)) s
    (pick (eqb (place_of s.words p) s.cursor)
    (pack s.words s.store (s.cursor + size_of s.words p))
    (pack (put_word Links s.words p 0 s.cursor)
    (moved s.store (place_of s.words p) s.cursor (size_of s.words p))
    (s.cursor + size_of s.words p)))

-- the rows from p on, at most n of them, one after another
unfoldable pub pack_from : ℕ → Pack → ℕ → Pack
pack_from zero s p = s
pack_from (suc n) s p = pick (leb 4096 p) s (pack_from n (move_row s p) (newer s.words p))

-- the rows from the start on, as many as the table has; the used part then ends where they do: "free bytes count together, however scattered"
unfoldable pub packed : List ℕ → List ℕ → ℕ → Outcome
packed ws st n =
    let b = start_of ws (length st) n in
    let s = pack_from 4096 (pack ws st b.cursor) b.row in
    outcome 0 (put_word Header s.words 0 6 b.end) s.store
