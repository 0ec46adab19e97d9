-- Adding a message. Assumes nothing.
use Rattle.std.specs.Prelude.{ℕ, ◌-◌, ◌≤◌, ◌<◌, ◌≡◌, Bool, true, false, List, ltb, eqb, length}
use Rattle.types.specs.Wrap.{wrapping_add}
use Rattle.queue_words.specs.Flags.{pick}
use Rattle.queue_words.specs.Header.{options_at, totals_at, put_totals, scheduler_at}
use Rattle.queue_words.specs.Items.{item_at, put_item, put_next}
use Rattle.queue_words.specs.Known.{known_count}
use Rattle.queue_words.specs.Streams.{stream_at_words, put_chain, with_chain}
use Rattle.queue_words.specs.declared.header.Totals.{Totals}
use Rattle.queue_words.specs.declared.streams.OutgoingStream.{OutgoingStream}
use Rattle.queue_words.specs.declared.streams.PauseState.{PauseState}
use Rattle.queue_words.specs.declared.streams.PauseState.TheVariants.{NotPaused, Pending, Paused, Resetting}
use Rattle.payload_store.specs.Putting.{put_code, put_payload}
use Rattle.stream_scheduler.specs.Words.{begin_waiting}
use Rattle.queue_streams.specs.Known.{new_stream_words, look_up, inserted}
use Rattle.queue_streams.specs.Waiting.{parameters_for}
use Rattle.queue_streams.specs.Call.{Call}
use Rattle.queue_streams.specs.Call.{Accepted, Refused}
use Rattle.queue_streams.specs.Place.{Place}
use Rattle.queue_streams.specs.Place as place
use Rattle.message_chains.specs.Amounts.{sum}
use Rattle.queue_messages.specs.Message.{Lifetime, nanoseconds, new_item_words}
use Rattle.queue_messages.specs.declared.message.Message.{Message}

-- ------------------------------------------------------------------ refusals, in checking order; 0 for none

-- 4: "A time or lifetime is above 4,611,686,018,427,387,903." 5: "The payload is empty or above 262,144 bytes."
abbrev pub asked_code : ℕ → Lifetime → ℕ → ℕ
asked_code now life n =
    pick (ltb 4611686018427387903 now) 4
    (pick (ltb 4611686018427387903 (nanoseconds life)) 4
    (pick (eqb n 0) 5
    (pick (ltb 262144 n) 5 0)))

-- 2: "or not of its creation length later".
unfoldable pub arguments_code : List ℕ → ℕ → ℕ → Lifetime → ℕ → ℕ
arguments_code ws len now life n = pick (eqb (options_at ws).store_length len) (asked_code now life n) 2

-- 7: "The message would be the 1,025th waiting." 8: "The payload is longer than the free bytes."
unfoldable pub full_code : List ℕ → ℕ → ℕ → ℕ
full_code ws len n = pick (ltb 1023 (totals_at ws).waiting) 7 (pick (ltb (len - (totals_at ws).used) n) 8 0)

-- "messages added to a paused or resetting stream do not start it"; one that has messages waits already.
abbrev pub may_start : PauseState → Bool
may_start NotPaused = true
may_start Pending = true
may_start Paused = false
may_start Resetting = false

unfoldable pub starts : OutgoingStream → Bool
starts s = pick (may_start s.pause_state) (ltb 1023 s.first) false

-- whether the scheduler has a row for the stream, where the message starts it; one that is not started needs none
unfoldable pub has_room_words : List ℕ → OutgoingStream → Bool
has_room_words ws s = pick (starts s) (ltb (scheduler_at ws).active 256) true

-- 16: "a place kept in the state lies outside its table": the first free place, the one behind it, the ends of the stream's chain
unfoldable pub places_code : List ℕ → OutgoingStream → ℕ → ℕ
places_code ws s free =
    pick (ltb 1023 free) 16
    (pick (ltb 1024 (item_at ws free).next) 16
    (pick (ltb 1024 s.first) 16
    (pick (eqb s.first 1024) 0
    (pick (ltb 1023 s.last) 16 0))))

-- 16: "or pass 2^64 - 1, or a place kept in the state lies outside its table".
unfoldable pub broken_code : List ℕ → ℕ → OutgoingStream → ℕ → ℕ
broken_code ws len s n =
    pick (ltb (18446744073709551615 - (totals_at ws).total) n) 16
    (pick (ltb (18446744073709551615 - s.buffered_amount) n) 16
    (pick (ltb 0 (places_code ws s (totals_at ws).free)) 16
    (pick (has_room_words ws s) (pick (ltb 1 (put_code ws len (totals_at ws).free n)) 16 0) 16)))

unfoldable pub message_code : List ℕ → ℕ → OutgoingStream → ℕ → ℕ
message_code ws len s n = pick (ltb 0 (full_code ws len n)) (full_code ws len n) (broken_code ws len s n)

-- a stream that cannot be found: 6 comes before 7 and 8, 16 after them
unfoldable pub lost_code : List ℕ → ℕ → ℕ → ℕ → ℕ
lost_code ws len n code = pick (eqb code 6) 6 (pick (ltb 0 (full_code ws len n)) (full_code ws len n) code)

-- the refusal of a stream that has no place, 0 for none
abbrev pub refused_place : List ℕ → ℕ → ℕ → Place → ℕ
refused_place ws len n (place.Row row) = 0
refused_place ws len n (place.New position) = 0
refused_place ws len n (place.Refused code) = lost_code ws len n code

-- ------------------------------------------------------------------ the message hung to its chain

-- a stream with a place more at its chain's end, n bytes more
abbrev pub with_last : OutgoingStream → ℕ → ℕ → ℕ → OutgoingStream
with_last s first last n = with_chain s (sum s.buffered_amount n) first last

-- where a stream has a first message, its last is a place of the table
abbrev pub HasLast : OutgoingStream → Type 0
HasLast s = s.first < 1024 → s.last < 1024

-- a place at the end of a stream's chain, n bytes more; a last place outside its table, which the test has ruled out, is passed over
unfoldable pub linked_last : List ℕ → ℕ → OutgoingStream → ℕ → ℕ → List ℕ
linked_last ws row s p n =
    let amount = sum s.buffered_amount n in
    pick (ltb 1023 s.first) (put_chain ws row amount p p)
    (pick (ltb 1023 s.last) (put_chain ws row amount s.first p)
    (put_chain (put_next ws s.last p) row amount s.first p))

-- "Message ids have 32 bits, start at 0, grow by one with each accepted message and wrap."
abbrev pub with_message_words : Totals → ℕ → ℕ → Totals
with_message_words t free n = record {
  interleaving = t.interleaving;
  next_message_id = record { 0 = wrapping_add 32 t.next_message_id.0 1 };
  total = sum t.total n;
  known = t.known;
  waiting = sum t.waiting 1;
  free = free;
  used = t.used;
  gaps = t.gaps;
}

unfoldable pub counted : List ℕ → ℕ → ℕ → List ℕ
counted ws free n = put_totals ws (with_message_words (totals_at ws) free n)

-- the scheduler after a message of n bytes for the stream s
unfoldable pub started : List ℕ → ℕ → OutgoingStream → ℕ → List ℕ
started ws id s n = pick (starts s) (begin_waiting ws id n (parameters_for (totals_at ws).interleaving s.priority)).next ws

-- the words and the store
pub record Stored : Type 0 where
  pub words : List ℕ
  pub store : List ℕ

abbrev pub stored : List ℕ → List ℕ → Stored
stored ws st = record { words = ws; store = st }

-- the message in the first free place, at the end of its stream's chain; a place outside its table, which the test has ruled out, is passed over
unfoldable pub appended_at : List ℕ → List ℕ → ℕ → Message → List ℕ → ℕ → OutgoingStream → ℕ → ℕ → Stored
appended_at ws st now m bs row s p free =
    let o = put_payload (put_item ws p (new_item_words now (totals_at ws).next_message_id m)) st p bs in
    stored (started (counted (linked_last o.words row s p (length bs)) free (length bs)) m.stream_id.0 s (length bs)) o.store

unfoldable pub appended : List ℕ → List ℕ → ℕ → Message → List ℕ → ℕ → OutgoingStream → Stored
appended ws st now m bs row s =
    pick (ltb 1023 (totals_at ws).free) (stored ws st)
    (appended_at ws st now m bs row s (totals_at ws).free (item_at ws (totals_at ws).free).next)

-- The tests say that a message of n bytes for the stream s has a place, its payload too, the chain a last one, the scheduler a row: 16 is not given.
pub record MayAppend (ws : List ℕ) (len now : ℕ) (m : Message) (s : OutgoingStream) (n : ℕ) : Type 0 where
  pub time_fits : now ≤ 4611686018427387903
  pub lifetime_fits : nanoseconds m.lifetime ≤ 4611686018427387903
  pub may_put : put_code ws len (totals_at ws).free n ≤ 1
  pub has_last : HasLast s
  pub has_room : has_room_words ws s ≡ true

-- ------------------------------------------------------------------ the call

pub record Added : Type 0 where
  pub answer : Call
  pub words : List ℕ
  pub store : List ℕ

abbrev pub added : Call → List ℕ → List ℕ → Added
added a ws st = record { answer = a; words = ws; store = st }

-- Where the message goes: the stream's row as it is, or that of a stream that the message makes known; the row's number; and the stream
-- made known. A place that is refused never gets there.
abbrev pub stream_for : List ℕ → Place → OutgoingStream
stream_for ws (place.Row row) = stream_at_words ws row
stream_for ws (place.New position) = new_stream_words (options_at ws)
stream_for ws (place.Refused code) = new_stream_words (options_at ws)

abbrev pub row_for : List ℕ → Place → ℕ
row_for ws (place.Row row) = row
row_for ws (place.New position) = (totals_at ws).known
row_for ws (place.Refused code) = 0

abbrev pub made_known : List ℕ → ℕ → Place → List ℕ
made_known ws id (place.Row row) = ws
made_known ws id (place.New position) = inserted ws position id (new_stream_words (options_at ws))
made_known ws id (place.Refused code) = ws

-- places inside their tables
abbrev pub HasPlace : List ℕ → Place → Type 0
HasPlace ws (place.Row row) = row < 256
HasPlace ws (place.New position) = (position ≤ known_count ws) × (known_count ws < 256)
HasPlace ws (place.Refused code) = Unit {0}

-- a message for a stream that is known, or that it makes known
unfoldable pub add_to : List ℕ → List ℕ → ℕ → Message → List ℕ → Place → Added
add_to ws st now m bs place =
    let s = stream_for ws place in
    let code = message_code ws (length st) s (length bs) in
    let next = appended (made_known ws m.stream_id.0 place) st now m bs (row_for ws place) s in
    pick (ltb 0 code) (added (Refused code) ws st) (added (Accepted 0) next.words next.store)

-- once the stream's place is looked up
abbrev pub add_in : List ℕ → List ℕ → ℕ → Message → List ℕ → Place → Added
add_in ws st now m bs place =
    let code = refused_place ws (length st) (length bs) place in
    pick (ltb 0 code) (added (Refused code) ws st) (add_to ws st now m bs place)

-- Add a message to the words; the store is lent.
unfoldable pub add : List ℕ → List ℕ → ℕ → Message → List ℕ → Added
add ws st now m bs =
    let code = arguments_code ws (length st) now m.lifetime (length bs) in
    pick (ltb 0 code) (added (Refused code) ws st) (add_in ws st now m bs (look_up ws m.stream_id.0))
