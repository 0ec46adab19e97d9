-- Document 01's list of refusals: "Refused, in checking order; the first that applies is given, and none otherwise". Assumes nothing.
-- (13 stands with the reader of images, 14 and 15 with restoring; 16 is judged where an amount falls or rises, in Add, Produce, Discard, Close and
-- Reset, and where the
-- scheduler's choice is looked at, in Produce. That "a place kept in the state lies outside its table", part of 16, is not said here: the model has no places.)
use Rattle.std.specs.Prelude.{ℕ, ◌+◌, Bool, not, ◌||◌, List, [], ◌∷◌, eqb, ltb, leb}
use Rattle.std.proofs.Math.Option.{Option, none, some}
use Rattle.std.specs.Prelude.{if◌then◌else◌}
use Rattle.queue_model.specs.Logic.{outside, is_nil}
use Rattle.queue_model.specs.Types.{Item, Stream, Options, Queue, Step, refuse, remaining}
use Rattle.queue_model.specs.Streams.{max_messages, too_many, waiting, free_bytes, new_queue}

-- ------------------------------------------------------------------ lists of checks

-- A refusal's number, and whether it applies.
pub record Check : Type 0 where
  pub number : ℕ
  pub applies : Bool

infix 20 ◌when◌
abbrev pub ◌when◌ : ℕ → Bool → Check
n when b = record { number = n; applies = b }

-- "the first that applies is given, and none otherwise".
unfoldable pub first_refusal : List Check → Option ℕ
first_refusal [] = none
first_refusal (c ∷ cs) = if c.applies then some c.number else first_refusal cs

unfoldable pub refused_or : Option ℕ → Queue → Step → Step
refused_or none q s = s
refused_or (some n) q s = refuse q n

-- A call on a queue that does this unless one of these checks refuses it.
unfoldable pub checked : List Check → Queue → Step → Step
unfolding first_refusal refused_or
checked cs q s = refused_or (first_refusal cs) q s

-- ------------------------------------------------------------------ the limits

-- "Times are 64-bit counts of nanoseconds", allowed up to this one.
abbrev pub max_time : ℕ
max_time = 4611686018427387903

-- "payload 1 to 262,144 bytes".
abbrev pub max_payload : ℕ
max_payload = 262144

-- The places that the event list must have.
abbrev pub event_places : ℕ
event_places = 2305

-- 2^64 - 1.
abbrev pub max_word : ℕ
max_word = 18446744073709551615

-- ------------------------------------------------------------------ the list

-- 1. "At creation, the payload limit is outside 1 to 65,535." Document 02, 13/13: also where priorities are planned.
abbrev pub limit_wrong : ℕ → Check
limit_wrong n = 1 when outside 1 65535 n

-- 2. "The store is outside 1 to 2,000,000 bytes at creation, or not of its creation length later." (on the calls that are lent it: adding, next
-- fragment, saving, restoring)
abbrev pub store_wrong : ℕ → Check
store_wrong n = 2 when outside 1 2000000 n

abbrev pub store_other : ℕ → Queue → Check
store_other n q = 2 when not (eqb n q.options.store_length)

-- 3. "On next fragment, discard, close or setting a threshold, the event list has fewer than 2,305 places."
abbrev pub places_few : ℕ → Check
places_few n = 3 when ltb n event_places

-- 4. "A time or lifetime is above 4,611,686,018,427,387,903."
abbrev pub time_late : ℕ → Check
time_late t = 4 when ltb max_time t

-- 5. "The payload is empty or above 262,144 bytes."
abbrev pub payload_wrong : ℕ → Check
payload_wrong n = 5 when outside 1 max_payload n

-- 6. "The call would make a 257th known stream."
abbrev pub streams_full : Queue → ℕ → Check
streams_full q k = 6 when too_many q k

-- 7. "The message would be the 1,025th waiting."
abbrev pub messages_full : Queue → Check
messages_full q = 7 when leb max_messages (waiting q.streams)

-- 8. "The payload is longer than the free bytes."
abbrev pub store_full : Queue → ℕ → Check
store_full q n = 8 when ltb (free_bytes q) n

-- 9. "The size asked for is outside 1 to 262,144."
abbrev pub size_wrong : ℕ → Check
size_wrong n = 9 when outside 1 max_payload n

-- 10. "The fragment buffer is shorter than the size asked for."
abbrev pub buffer_short : ℕ → ℕ → Check
buffer_short buffer size = 10 when ltb buffer size

-- 11. "The image buffer is shorter than the image."
abbrev pub image_long : ℕ → ℕ → Check
image_long room size = 11 when ltb room size

-- 12. "Restoring finds a queue that knows a stream, or whose next message id is not 0."
abbrev pub queue_used : Queue → Check
queue_used q = 12 when not (is_nil q.streams) || not (eqb q.next_message_id 0)

-- 16. "an amount would fall below 0": whether the total or a stream's amount is less than n bytes.
unfoldable pub short_of : Queue → Stream → ℕ → Bool
short_of q s n = ltb q.total n || ltb s.amount n

-- The same of a message's own rest: whether n bytes can leave the head of a stream.
unfoldable pub short_of_head : Queue → Stream → Item → ℕ → Bool
unfolding short_of
short_of_head q s i n = short_of q s n || ltb (remaining i) n

-- 16. "or pass 2^64 - 1": whether n bytes more are too many for the total or a stream's amount.
unfoldable pub overflows : Queue → Stream → ℕ → Bool
overflows q s n = ltb max_word (q.total + n) || ltb max_word (s.amount + n)

-- 20. "when the packet limit is outside 36 to 65,535" (document 02, 5/13).
abbrev pub packet_limit_wrong : ℕ → Check
packet_limit_wrong n = 20 when outside 36 65535 n

-- 21. "when the packet buffer is shorter than the limit".
abbrev pub packet_short : ℕ → ℕ → Check
packet_short buffer limit = 21 when ltb buffer limit

-- ------------------------------------------------------------------ creation

-- Creation's refusal.
unfoldable pub create_refusal : Options → Option ℕ
unfolding first_refusal
create_refusal o = first_refusal (limit_wrong o.payload_limit ∷ store_wrong o.store_length ∷ [])

-- What creation gives: a refusal's number, or the new queue (Rust: SendQueue::new).
pub data Creation : Type 0 where
  not_created : ℕ → Creation
  new : Queue → Creation

unfoldable pub creation_or : Option ℕ → Queue → Creation
creation_or none q = new q
creation_or (some n) q = not_created n

unfoldable pub create : Options → Creation
unfolding create_refusal creation_or
create o = creation_or (create_refusal o) (new_queue o)
