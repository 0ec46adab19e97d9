-- The known streams of a queue: finding one, counting what waits, and letting a stream wait. Assumes nothing.
use Rattle.std.specs.Prelude.{ℕ, ◌+◌, ◌-◌, Bool, true, false, not, ◌&&◌, List, [], ◌∷◌, ◌++◌, leb, length}
use Rattle.std.proofs.Math.Option.{Option, none, some, get_or}
use Rattle.std.specs.Prelude.{if◌then◌else◌}
use Rattle.queue_model.specs.Logic.{is_some}
use Rattle.queue_model.specs.Table.{find, put, sum_by}
use Rattle.queue_model.specs.Types.{Item, not_paused, Counters, Stream, Weight, round_robin, weighted, Scheduler, Options, Queue, remaining, with_items}
use Rattle.queue_model.specs.Scheduler.{set_bytes_remaining, new_scheduler}

-- ------------------------------------------------------------------ limits

-- "256 known streams; 1,024 waiting messages".
abbrev pub max_streams : ℕ
max_streams = 256

abbrev pub max_messages : ℕ
max_messages = 1024

-- ------------------------------------------------------------------ one stream

-- The known streams are a table by id: the stream of an id, if it is known; and the streams with one set.
abbrev pub stream_key : Stream → ℕ
stream_key s = s.id

abbrev pub find_stream : ℕ → List Stream → Option Stream
find_stream k ss = find stream_key k ss

abbrev pub put_stream : Stream → List Stream → List Stream
put_stream s ss = put stream_key s ss

abbrev pub zero_counters : Counters
zero_counters = record { next_ssn = 0; next_unordered_mid = 0; next_ordered_mid = 0 }

-- A new stream: open, no messages, the default priority and threshold (Rust: make_stream).
abbrev pub new_stream : Options → ℕ → Stream
new_stream o k = record { id = k; priority = o.default_priority; pause_state = not_paused; counters = zero_counters; amount = 0; threshold = o.default_threshold; items = [] }

-- The stream of an id in a list of streams: the known one, or a new one (Rust: entry(id).or_insert_with); and of a queue.
abbrev pub at : Options → List Stream → ℕ → Stream
at o ss k = get_or (find_stream k ss) (new_stream o k)

abbrev pub stream_at : Queue → ℕ → Stream
stream_at q k = at q.options q.streams k

-- Whether a call on a stream would make the 257th known one.
unfoldable pub too_many : Queue → ℕ → Bool
unfolding find is_some
too_many q k = not (is_some (find_stream k q.streams)) && leb max_streams (length q.streams)

-- A stream with one message more, at its end.
abbrev pub with_message : Stream → Item → Stream
with_message s i = with_items s (s.amount + remaining i) (s.items ++ (i ∷ []))

-- A stream set in its place, and made known if it was not.
abbrev pub know : Queue → Stream → Queue
know q s = record { options = q.options; interleaving = q.interleaving; total = q.total; next_message_id = q.next_message_id; streams = put_stream s q.streams; scheduler = q.scheduler }

-- ------------------------------------------------------------------ sums

-- The waiting messages of all streams.
abbrev pub waiting : List Stream → ℕ
waiting ss = sum_by (λ (s : Stream). length s.items) ss

-- "A message occupies its full payload length until its last fragment is handed out or it is dropped".
abbrev pub payload_bytes : List Item → ℕ
payload_bytes is = sum_by (λ (i : Item). length i.payload) is

abbrev pub occupied : List Stream → ℕ
occupied ss = sum_by (λ (s : Stream). payload_bytes s.items) ss

-- The unsent bytes of messages.
abbrev pub unsent_bytes : List Item → ℕ
unsent_bytes is = sum_by (λ (i : Item). remaining i) is

-- "free bytes count together, however scattered".
unfoldable pub free_bytes : Queue → ℕ
free_bytes q = q.options.store_length - occupied q.streams

-- The amounts of all streams together.
abbrev pub amounts : List Stream → ℕ
amounts ss = sum_by (λ (s : Stream). s.amount) ss

-- ------------------------------------------------------------------ waiting

unfoldable pub some_items : List Item → Bool
some_items [] = false
some_items (i ∷ is) = true

unfoldable pub has_items : Stream → Bool
unfolding some_items
has_items s = some_items s.items

-- The remaining bytes of the first message, 0 if there is none.
unfoldable pub head_size : List Item → ℕ
head_size [] = 0
head_size (i ∷ is) = remaining i

-- The same of an id's stream, 0 if it is not known.
abbrev pub model_size_of : Option Stream → ℕ
model_size_of none = 0
model_size_of (some s) = head_size s.items

unfoldable pub size_at : ℕ → List Stream → ℕ
size_at k ss = model_size_of (find_stream k ss)

-- The weight that the scheduler reads: the priority with interleaving, none without.
unfoldable pub weight_of : Bool → Stream → Weight
weight_of true s = weighted s.priority
weight_of false s = round_robin

-- Let a stream wait with its first message, or end its waiting if it has none. "A weight is read when the stream begins to wait, and at a drop ...":
-- here, and after a last
-- fragment (`handed_out_last`).
unfoldable pub reschedule : Bool → Stream → Scheduler → Scheduler
unfolding set_bytes_remaining head_size weight_of
reschedule il s sc = set_bytes_remaining s.id (head_size s.items) (weight_of il s) sc

-- The same for every stream of a list that passes a test, in ascending order.
unfoldable pub reschedule_each : Bool → (Stream → Bool) → List Stream → Scheduler → Scheduler
unfolding reschedule
reschedule_each il test [] sc = sc
reschedule_each il test (s ∷ ss) sc = reschedule_each il test ss (if test s then reschedule il s sc else sc)

-- ------------------------------------------------------------------ a new queue

-- "interleaving starts off".
unfoldable pub new_queue : Options → Queue
unfolding new_scheduler
new_queue o = record { options = o; interleaving = false; total = 0; next_message_id = 0; streams = []; scheduler = new_scheduler o.payload_limit }
