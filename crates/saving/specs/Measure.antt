-- The first pass of saving, on the words: are they those of a queue, and how large is its image? Assumes nothing.
use Rattle.std.specs.Prelude.{ℕ, zero, suc, ◌+◌, ◌-◌, ◌*◌, ◌≤◌, Bool, true, false, List, ltb, eqb}
use Rattle.queue_words.specs.Flags.{pick}
use Rattle.queue_words.specs.Header.{options_at, totals_at}
use Rattle.queue_words.specs.Items.{item_at}
use Rattle.queue_words.specs.Streams.{stream_at_words}
use Rattle.queue_words.specs.declared.items.Item.{Item}
use Rattle.queue_words.specs.declared.streams.OutgoingStream.{OutgoingStream}
use Rattle.queue_state.specs.Model.{row_at}
use Rattle.saving.specs.declared.measuring.Counts.{Counts}
use Rattle.saving.specs.declared.measuring.Tally.{Tally}

abbrev pub tally : Bool → ℕ → ℕ → ℕ → ℕ → Tally
tally ok place streams messages bytes = record { ok = ok; place = place; streams = streams; messages = messages; bytes = bytes }

abbrev pub tally_start : Tally
tally_start = tally true 1024 0 0 0

-- Broken words end the pass.
abbrev pub failed : Tally → Tally
failed t = tally false 1024 t.streams t.messages t.bytes

-- 16: "a place kept in the state lies outside its table". Whether a message's payload, of at most 262,144 bytes, lies in a store of len bytes, and some of it is unsent.
unfoldable pub sound_item : Item → ℕ → Bool
sound_item m len =
    pick (ltb 262144 m.length) false
    (pick (ltb len m.length) false
    (pick (ltb (len - m.length) m.place) false
    (ltb m.offset m.length)))

-- One message more, if it is sound and not the 1,025th.
unfoldable pub tally_item : Tally → Item → ℕ → Tally
tally_item t m len =
    pick (sound_item m len)
    (pick (ltb t.messages 1024) (tally t.ok m.next t.streams (t.messages + 1) (t.bytes + (44 + m.length))) (failed t))
    (failed t)

-- At most so many messages along a chain; it ends where no place of the table follows.
unfoldable pub tally_chain : List ℕ → ℕ → Tally → ℕ → Tally
tally_chain ws len t zero = t
tally_chain ws len t (suc f) = pick (ltb 1023 t.place) t (tally_chain ws len (tally_item t (item_at ws t.place) len) f)

-- The end of every chain is 1024.
abbrev pub ended : Tally → Tally
ended t = pick (eqb t.place 1024) t (failed t)

-- "a stream with zero counters and the trailer's default priority has none": no record.
unfoldable pub is_plain : OutgoingStream → ℕ → Bool
is_plain s d =
    pick (eqb s.next_ssn.0 0) (pick (eqb s.next_unordered_mid.0 0) (pick (eqb s.next_ordered_mid.0 0) (eqb s.priority d) false) false) false

-- How many records the known stream in position i has.
abbrev pub records_of : List ℕ → ℕ → ℕ
records_of ws i = pick (is_plain (stream_at_words ws (row_at ws i)) (options_at ws).default_priority) 0 1

-- A stream with its messages, its record counted where it has one.
abbrev pub tally_row : List ℕ → ℕ → OutgoingStream → Tally → Tally
tally_row ws len s t =
    pick (is_plain s (options_at ws).default_priority)
    (ended (tally_chain ws len (tally t.ok s.first t.streams t.messages t.bytes) 1025))
    (ended (tally_chain ws len (tally t.ok s.first (t.streams + 1) t.messages t.bytes) 1025))

unfoldable pub tally_stream : List ℕ → ℕ → ℕ → Tally → Tally
tally_stream ws len i t = pick (ltb 255 (row_at ws i)) (failed t) (tally_row ws len (stream_at_words ws (row_at ws i)) t)

-- The known streams from position i on, so many.
unfoldable pub tally_from : List ℕ → ℕ → Tally → ℕ → ℕ → Tally
tally_from ws len t i zero = t
tally_from ws len t i (suc f) = tally_from ws len (tally_stream ws len i t) (i + 1) f

-- The whole pass.
unfoldable pub tally_queue : List ℕ → ℕ → Tally
tally_queue ws len = pick (ltb 256 (totals_at ws).known) (failed tally_start) (tally_from ws len tally_start 0 (totals_at ws).known)

-- What the pass has counted.
abbrev pub counts_of : Tally → Counts
counts_of t = record { streams = t.streams; messages = t.messages; bytes = t.bytes }

-- Counts of at most 256 streams and 1,024 messages of at most 262,188 bytes each.
pub record Few (n : Counts) : Type 0 where
  pub streams_few : n.streams ≤ 256
  pub messages_few : n.messages ≤ 1024
  pub bytes_few : n.bytes ≤ 268480512

-- What keeps the pass's sums small: at most 1,024 messages of at most 262,188 bytes.
pub record Small (t : Tally) : Type 0 where
  pub few : t.messages ≤ 1024
  pub light : t.bytes ≤ t.messages * 262188
