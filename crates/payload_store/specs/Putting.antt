-- Putting a payload: its test, and what it leaves, for any words and any store. Assumes nothing.
use Rattle.std.specs.Prelude.{Bool, true, false, List, ◌++◌, ℕ, zero, suc, ◌+◌, ◌-◌, ltb, leb, eqb, length, take, drop, Result, Ok, Err}
use Rattle.queue_words.specs.Flags.{pick}
use Rattle.queue_words.specs.Items.{put_place, put_length}
use Rattle.payload_store.specs.declared.NoRoom.{NoRoom}
use Rattle.payload_store.specs.declared.NoRoom.TheVariants.{StoreFull, Broken}
use Rattle.payload_store.specs.declared.Room.{Room}
use Rattle.payload_store.specs.declared.Room.TheVariants.{KnownGap, Elsewhere}
use Rattle.payload_store.specs.declared.Tally.{Tally}
use Rattle.queue_words.specs.declared.header.Gaps.{Gaps}
use Rattle.payload_store.specs.Words.{used_of, gaps_of, place_of, size_of, put_bytes}
use Rattle.payload_store.specs.Gaps.{gaps, room, gaps_wrong, gap_for}
use Rattle.payload_store.specs.Searching.{found}
use Rattle.payload_store.specs.Moving.{together}

abbrev pub tally : Bool → ℕ → Tally
tally ok left = record { ok = ok; left = left }

-- Document 01: "A message occupies its full payload length"; 16: "or a place kept in the state lies outside its table".
-- does row i's payload lie in a store of len bytes, and is it no longer than what is left of the used bytes; where nothing is left, it is not judged
unfoldable pub row_fits_words : List ℕ → ℕ → ℕ → Tally → Tally
row_fits_words ws len i t =
    pick (eqb t.left 0) t
    (pick (ltb len (size_of ws i)) (tally false t.left)
    (pick (ltb (len - size_of ws i) (place_of ws i)) (tally false t.left)
    (pick (ltb t.left (size_of ws i)) (tally false t.left)
    (tally t.ok (t.left - size_of ws i)))))

-- after the first n rows
unfoldable pub fits_to : List ℕ → ℕ → ℕ → ℕ → Tally
fits_to ws len used zero = tally true used
fits_to ws len used (suc n) = row_fits_words ws len n (fits_to ws len used n)

-- the rows judged fit, and nothing is left
unfoldable pub all_fit : List ℕ → ℕ → ℕ → Bool
all_fit ws len used = pick (fits_to ws len used 1024).ok (eqb (fits_to ws len used 1024).left 0) false

-- Where a payload has room or why it has none, in numbers: 0 in a known gap, 1 elsewhere, else the refusal's of document 01.
abbrev pub no_room_number : NoRoom → ℕ
no_room_number StoreFull = 8
no_room_number Broken = 16

abbrev pub put_number : Result Room NoRoom → ℕ
put_number (Ok KnownGap) = 0
put_number (Ok Elsewhere) = 1
put_number (Err e) = no_room_number e

-- the same once it is put: 0 for done
abbrev pub room_number : {A : Type 0} → Result A NoRoom → ℕ
room_number (Ok a) = 0
room_number (Err e) = no_room_number e

-- 8: "The payload is longer than the free bytes", and "free bytes count together, however scattered": judged by the used bytes, not by the gaps.
-- may a payload of n bytes be put into row i of a store of len bytes: 0 into a known gap, 1 elsewhere, 8 no room, 16 damaged
unfoldable pub put_code : List ℕ → ℕ → ℕ → ℕ → ℕ
put_code ws len i n =
    pick (leb 1024 i) 16
    (pick (ltb 0 (size_of ws i)) 16
    (pick (ltb len (used_of ws)) 16
    (pick (ltb (len - used_of ws) n) 8
    (pick (gaps_wrong (gaps_of ws) len) 16
    (pick (leb n (room (gap_for (gaps_of ws) n))) 0
    (pick (all_fit ws len (used_of ws)) 1 16))))))

pub record Outcome : Type 0 where
  pub answer : ℕ
  pub words : List ℕ
  pub store : List ℕ

abbrev pub outcome : ℕ → List ℕ → List ℕ → Outcome
outcome r ws st = record { answer = r; words = ws; store = st }

-- the store with src from `at` on
abbrev pub written : List ℕ → ℕ → List ℕ → List ℕ
written st at src = take at st ++ (src ++ drop (at + length src) st)

-- row i's payload is bs, put at the start of a gap
unfoldable pub placed : List ℕ → List ℕ → Gaps → ℕ → List ℕ → Outcome
placed ws st g i bs =
    outcome 0
    (put_bytes (put_length (put_place ws i g.end) i (length bs)) (used_of ws + length bs) (gaps (g.end + length bs) g.limit g.from g.upto))
    (written st g.end bs)

-- where the known gaps have no room: in the gap that is found, or behind the other payloads, moved together
unfoldable pub put_elsewhere : List ℕ → List ℕ → ℕ → List ℕ → Outcome
put_elsewhere ws st i bs =
    pick (leb (length bs) (room (found ws (used_of ws) (length st)))) (placed ws st (found ws (used_of ws) (length st)) i bs)
    (placed (together ws st).words (together ws st).store (gaps (used_of (together ws st).words) (length st) 0 0) i bs)

-- the whole call; refused, it leaves words and store as they were
unfoldable pub put_payload : List ℕ → List ℕ → ℕ → List ℕ → Outcome
put_payload ws st i bs =
    pick (eqb (put_code ws (length st) i (length bs)) 0) (placed ws st (gap_for (gaps_of ws) (length bs)) i bs)
    (pick (eqb (put_code ws (length st) i (length bs)) 1) (put_elsewhere ws st i bs)
    (outcome (put_code ws (length st) i (length bs)) ws st))
