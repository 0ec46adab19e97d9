-- What is tested before a chunk is accepted (document 02, 7/13), for any words, any store and any fragment. Assumes nothing.
use Rattle.std.specs.Prelude.{ℕ, ◌%◌, Bool, true, false, List, eqb, ltb, leb}
use Rattle.queue_words.specs.Flags.{pick, bit}
use Rattle.receiver_model.specs.Tsn.{is_after, is_far}
use Rattle.receiver_words.specs.Tables.{Header, word_at}
use Rattle.receiver_words.specs.Ahead.{ahead_at}
use Rattle.receiver_words.specs.Fragments.{fragment_at}
use Rattle.receiver_words.specs.Index.{find_row}
use Rattle.receiver_words.specs.declared.fragments.Fragment.{Fragment}
use Rattle.receiver_store.specs.Putting.{room_code}
use Rattle.receiver_store.specs.Reading.{same_code}

-- "the last one received without a gap"
unfoldable pub last_of : List ℕ → ℕ
last_of ws = word_at Header ws 0 2 % 4294967296

-- the same of each "field read", of two fragments with one TSN
unfoldable pub same_marks : Fragment → Fragment → Bool
same_marks f g =
    pick (eqb (bit f.unordered) (bit g.unordered))
    (pick (eqb (bit f.first) (bit g.first))
    (eqb (bit f.last) (bit g.last))
    false)
    false

unfoldable pub same_fields : Fragment → Fragment → Bool
same_fields f g =
    pick (eqb f.stream.0 g.stream.0)
    (pick (eqb f.ssn.0 g.ssn.0)
    (pick (eqb f.mid.0 g.mid.0)
    (pick (eqb f.fsn.0 g.fsn.0)
    (pick (eqb f.ppid g.ppid)
    (same_marks f g)
    false)
    false)
    false)
    false)
    false

-- "24 when a fragment at a TSN already held differs in payload or a field read": row j is held at f's TSN
unfoldable pub held_code : List ℕ → List ℕ → ℕ → Fragment → List ℕ → ℕ
held_code ws st j f bs = pick (same_fields (fragment_at ws j) f) (same_code ws st j bs) 24

-- "one accepted, fetched or not, that it has not yet passed"
unfoldable pub is_ahead : List ℕ → ℕ → ℕ → Bool
is_ahead ws last t = pick (is_far t last) false (ahead_at ws t)

-- "an I-DATA fragment whose stream, order mark, MID and FSN are held"
unfoldable pub holds_place : List ℕ → Bool → Fragment → Bool
holds_place ws b f = pick b (ltb (find_row ws 1 f) 4096) false

-- "A TSN not after the last one received without a gap [..] is a repeat, as is one accepted [..] or an I-DATA fragment [..]": of a fragment whose TSN is
-- not held
unfoldable pub repeats : List ℕ → Bool → ℕ → Fragment → Bool
repeats ws b last f = pick (is_after f.tsn last) (pick (is_ahead ws last f.tsn) true (holds_place ws b f)) true

-- "23 when the payload is longer than the free store or it would be the 4,097th held fragment or from the 257th stream"; t is the stream's row, 256 for
-- a 257th stream; 16 for a count of streams above 256
unfoldable pub admit_code : List ℕ → ℕ → ℕ → ℕ → ℕ
admit_code ws len n t = pick (leb 4096 (word_at Header ws 0 4)) 23 (pick (ltb 256 t) 16 (pick (eqb t 256) 23 (room_code ws len n)))
