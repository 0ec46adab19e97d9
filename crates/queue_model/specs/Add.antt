-- Adding a message (Rust: add). Assumes nothing.
use Rattle.std.specs.Prelude.{ℕ, ◌+◌, Bool, true, false, not, ◌&&◌, List, [], ◌∷◌, length}
use Rattle.std.proofs.Math.Option.{Option, none, some, get_or}
use Rattle.types.specs.Wrap.{wrap_suc}
use Rattle.std.specs.Prelude.{if◌then◌else◌}
use Rattle.queue_model.specs.Table.{find, put}
use Rattle.queue_model.specs.Types.{Item, PauseState, not_paused, pending, paused, resetting, Stream, Scheduler, Queue, Message, done, Step, reply}
use Rattle.queue_model.specs.Streams.{put_stream, stream_at, too_many, free_bytes, has_items, reschedule, with_message}
use Rattle.queue_model.specs.Refusals.{Check, ◌when◌, checked, store_other, time_late, payload_wrong, streams_full, messages_full, store_full, overflows}

-- "a lifetime sets now + lifetime + 1 ms, else never".
unfoldable pub expiry : ℕ → Option ℕ → Option ℕ
expiry now none = none
expiry now (some l) = some (now + l + 1000000)

-- The message as it waits, with its message id; "no retransmission limit given means 65,535" (Rust: Item::new).
unfoldable pub new_item : ℕ → ℕ → Message → Item
unfolding expiry
new_item now k m = record { message_id = k; ppid = m.ppid; unordered = m.unordered; max_retransmissions = get_or m.max_retransmissions 65535; expires_at = expiry now m.lifetime; lifecycle_id = m.lifecycle_id; payload = m.payload; offset = 0; mid = none; ssn = 0; fsn = 0 }

-- "messages added to a paused or resetting stream do not start it"; in the Rust a pending one without messages is started. (With document 02's 3/13 no
-- queue has such a stream:
-- `pending_half`, proofs/Invariant/Pending.)
unfoldable pub starts_waiting : PauseState → Bool
starts_waiting not_paused = true
starts_waiting pending = true
starts_waiting paused = false
starts_waiting resetting = false

-- The scheduler after a stream s has become s' by a message: a stream that had none begins to wait.
unfoldable pub started : Bool → Stream → Stream → Scheduler → Scheduler
unfolding starts_waiting has_items reschedule
started il s s' sc = if starts_waiting s.pause_state && not (has_items s) then reschedule il s' sc else sc

-- An accepted message. "Message ids have 32 bits, start at 0, grow by one with each accepted message and wrap."
unfoldable pub added : ℕ → Message → Queue → Queue
unfolding find new_item put started
added now m q =
    let s = stream_at q m.stream_id in
    let s' = with_message s (new_item now q.next_message_id m) in
    record {
      options = q.options;
      interleaving = q.interleaving;
      total = q.total + length m.payload;
      next_message_id = wrap_suc 32 q.next_message_id;
      streams = put_stream s' q.streams;
      scheduler = started q.interleaving s s' q.scheduler;
    }

abbrev pub add_checks : ℕ → ℕ → Message → Queue → List Check
add_checks store now m q =
    store_other store q
    ∷ time_late now
    ∷ time_late (get_or m.lifetime 0)
    ∷ payload_wrong (length m.payload)
    ∷ streams_full q m.stream_id
    ∷ messages_full q
    ∷ store_full q (length m.payload)
    ∷ (16 when overflows q (stream_at q m.stream_id) (length m.payload))
    ∷ []

-- Add a message; the store is lent.
unfoldable pub add : ℕ → ℕ → Message → Queue → Step
unfolding checked added too_many free_bytes overflows
add store now m q = let s = reply done [] (added now m q) in checked (add_checks store now m q) q s
