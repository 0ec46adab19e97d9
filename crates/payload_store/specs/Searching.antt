-- Searching gaps: what the code finds, for any words. Assumes nothing.
use Rattle.std.specs.Prelude.{Bool, false, List, ℕ, zero, suc, ◌+◌, ◌-◌, ◌*◌, ◌/◌, ltb, leb, eqb, get_or, set, replicate}
use Rattle.queue_words.specs.Flags.{pick}
use Rattle.queue_words.specs.declared.header.Gaps.{Gaps}
use Rattle.payload_store.specs.declared.searching.Run.{Run}
use Rattle.payload_store.specs.Words.{place_of, size_of}
use Rattle.payload_store.specs.Gaps.{gaps}

-- a payload lies in a store of len bytes
unfoldable pub lies : ℕ → ℕ → ℕ → Bool
lies place size len = pick (ltb len size) false (leb place (len - size))

-- how far the payloads reach that begin in each piece of 8,192 bytes (0: none does): those of piece k up to piece x, or further
unfoldable pub raised : List ℕ → ℕ → ℕ → List ℕ
raised rs k x = pick (ltb (get_or rs k 0) x) (set rs k x) rs

-- with row i's payload, of so many bytes: up to the piece behind the one at its end
unfoldable pub reached : List ℕ → List ℕ → ℕ → ℕ → List ℕ
reached ws rs i size =
    pick (eqb size 0) rs
    (pick (lies (place_of ws i) size 2097151) (raised rs (place_of ws i / 8192) ((place_of ws i + size) / 8192 + 1)) rs)

-- how many of the used bytes are not in the first n rows
unfoldable pub left_to : List ℕ → ℕ → ℕ → ℕ
left_to ws used zero = used
left_to ws used (suc n) = left_to ws used n - size_of ws n

-- with the first n rows, up to the one with which the used bytes are all there
unfoldable pub reach_to : List ℕ → ℕ → ℕ → List ℕ
reach_to ws used zero = replicate 256 0
reach_to ws used (suc n) = pick (eqb (left_to ws used n) 0) (reach_to ws used n) (reached ws (reach_to ws used n) n (size_of ws n))

abbrev pub run : ℕ → ℕ → ℕ → ℕ → ℕ → Run
run f u l h o = record { from = f; upto = u; low = l; high = h; start = o }

-- the two longest runs, and where the one that goes on began, with the free piece k at its end
unfoldable pub free_at : Run → ℕ → Run
free_at r k =
    pick (eqb r.upto k) (run r.start (k + 1) r.low r.high r.start)
    (pick (ltb (r.upto - r.from) (k + 1 - r.start)) (run r.start (k + 1) r.from r.upto r.start)
    (pick (ltb (r.high - r.low) (k + 1 - r.start)) (run r.from r.upto r.start (k + 1) r.start) r))

unfoldable pub greater : ℕ → ℕ → ℕ
greater a b = pick (ltb a b) b a

-- with piece k, from which payloads reach up to piece x: it is free where none begins in it and none reaches into it
unfoldable pub run_on : Run → ℕ → ℕ → Run
run_on r x k =
    pick (ltb 0 x) (run r.from r.upto r.low r.high (greater (greater r.start x) (k + 1)))
    (pick (ltb k r.start) r (free_at r k))

-- among the first n pieces
unfoldable pub run_to : List ℕ → ℕ → Run
run_to rs zero = run 0 0 0 0 0
run_to rs (suc n) = run_on (run_to rs n) (get_or rs n 0) n

-- no more than the store has
unfoldable pub within : ℕ → ℕ → ℕ
within len x = pick (ltb len x) len x

-- the bytes of the runs; of the store's last piece, which may be short, those that are there
abbrev pub bytes_of : ℕ → Run → Gaps
bytes_of len r = gaps (r.from * 8192) (within len (r.upto * 8192)) (r.low * 8192) (within len (r.high * 8192))

-- the two longest runs of pieces into which no payload reaches, the longest one first; a store of 256 pieces or more is not searched
unfoldable pub found : List ℕ → ℕ → ℕ → Gaps
found ws used len = pick (leb 2097152 len) (gaps 0 0 0 0) (bytes_of len (run_to (reach_to ws used 1024) ((len + 8192 - 1) / 8192)))
