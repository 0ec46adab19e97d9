-- "The questions are the calls that only ask". They change nothing. Assumes nothing.
use Rattle.std.specs.Prelude.{ℕ, Bool, not, ◌&&◌, eqb, ltb, length}
use Rattle.std.specs.Prelude.{if◌then◌else◌}
use Rattle.queue_model.specs.Logic.{is_some, any}
use Rattle.queue_model.specs.Table.{find}
use Rattle.queue_model.specs.Types.{Queue}
use Rattle.queue_model.specs.Scheduler.{peek}
use Rattle.queue_model.specs.Streams.{stream_at, waiting, free_bytes}
use Rattle.queue_model.specs.Reset.{is_paused, paused_ids}

-- "A call of its own answers the priority last set or restored, the default where there is none, and changes nothing." (Rust: get_priority)
unfoldable pub priority_of : Queue → ℕ → ℕ
unfolding find
priority_of q k = (stream_at q k).priority

-- A stream's amount, 0 where it is not known (Rust: buffered_amount).
unfoldable pub amount_of : Queue → ℕ → ℕ
unfolding find
amount_of q k = (stream_at q k).amount

-- A stream's threshold, the default where it is not known (Rust: buffered_amount_low_threshold).
unfoldable pub threshold_of : Queue → ℕ → ℕ
unfolding find
threshold_of q k = (stream_at q k).threshold

-- Whether the total is 0 (Rust: is_empty).
unfoldable pub is_empty : Queue → Bool
is_empty q = eqb q.total 0

-- Whether a stream waits (Rust: has_data_to_send).
unfoldable pub has_data : Queue → Bool
unfolding peek is_some
has_data q = is_some (peek q.scheduler)

-- Whether a stream is paused (Rust: has_streams_ready_to_be_reset).
unfoldable pub streams_ready : Queue → Bool
unfolding any is_paused
streams_ready q = any is_paused q.streams

-- How many streams are paused: as many as the "ready stream ids" of a request (document 02, 9/13), which is judged by its length before they are taken.
unfoldable pub ready_count : Queue → ℕ
unfolding paused_ids
ready_count q = length (paused_ids q.streams)

-- "Readiness is 2 if handover with waiting data is off and the total is above 0, else 0." (Rust: get_handover_readiness)
unfoldable pub readiness : Queue → ℕ
readiness q = if not q.options.handover_with_data && ltb 0 q.total then 2 else 0

-- What may run out: "free bytes count together, however scattered"; "256 known streams; 1,024 waiting messages".
pub data Room : Type 0 where
  free_store waiting_messages known_streams : Room

-- How much of it there is: the free bytes, what waits, what is known (questions beyond the Rust's, by which a feeder sees 6, 7 and 8 coming).
unfoldable pub room_of : Room → Queue → ℕ
unfolding free_bytes
room_of free_store q = free_bytes q
room_of waiting_messages q = waiting q.streams
room_of known_streams q = length q.streams
