-- The Rust's own handover record (api/handover.rs: streams and queued messages only) and what the Rust restores from it (tx/send_queue.rs:
-- add_to_handover_state and
-- restore_from_state). Nothing here is made of the image's definitions: demand 2 compares the two. (Numbers are natural here: the Rust's `ms.max(0)` and
-- its casts to u32 do
-- nothing to the numbers of a record that was saved.) Assumes nothing.
use Rattle.std.specs.Prelude.{ℕ, ◌+◌, ◌-◌, ◌*◌, ◌/◌, min, Bool, true, false, List, [], ◌∷◌, ◌++◌, map, ltb, length}
use Rattle.std.proofs.Math.Option.{Option, none, some, get_or}
use Rattle.std.specs.Prelude.{if◌then◌else◌}
use Rattle.queue_model.specs.Table.{find, put}
use Rattle.queue_model.specs.Types.{Item, not_paused, Stream, Options, Queue, with_state}
use Rattle.queue_model.specs.Streams.{put_stream, at, with_message, amounts, has_items, reschedule_each}

-- ------------------------------------------------------------------ the record

-- Rust: HandoverOutgoingStream.
pub record OutgoingStreamState : Type 0 where
  pub id : ℕ
  pub next_ssn : ℕ
  pub next_unordered_mid : ℕ
  pub next_ordered_mid : ℕ
  pub priority : ℕ

-- Rust: HandoverStreamMessage.
pub record StreamMessageState : Type 0 where
  pub stream_id : ℕ
  pub ppid : ℕ
  pub payload : List ℕ
  pub expires_in_ms : Option ℕ
  pub max_retransmissions : ℕ
  pub unordered : Bool
  pub lifecycle_id : ℕ
  pub message_id : ℕ
  pub remaining_offset : ℕ
  pub mid : Option ℕ
  pub ssn : Option ℕ
  pub fsn : ℕ

-- Rust: SocketHandoverState, its part `tx`.
pub record HandoverState : Type 0 where
  pub next_message_id : ℕ
  pub streams : List OutgoingStreamState
  pub queued_messages : List StreamMessageState

-- ------------------------------------------------------------------ add_to_handover_state

unfoldable pub stream_state : Stream → OutgoingStreamState
stream_state s = record { id = s.id; next_ssn = s.counters.next_ssn; next_unordered_mid = s.counters.next_unordered_mid; next_ordered_mid = s.counters.next_ordered_mid; priority = s.priority }

-- i32::try_from((expires_at - now).as_millis()).unwrap_or(i32::MAX), none for never.
unfoldable pub expires_in : ℕ → Option ℕ → Option ℕ
expires_in now none = none
expires_in now (some t) = some (min ((t - now) / 1000000) 2147483647)

-- An SSN is given together with a MID, to ordered messages only.
unfoldable pub ssn_state : Bool → Option ℕ → ℕ → Option ℕ
ssn_state unordered none ssn = none
ssn_state true (some m) ssn = none
ssn_state false (some m) ssn = some ssn

unfoldable pub message_state : ℕ → ℕ → Item → StreamMessageState
unfolding expires_in ssn_state
message_state now k i =
    record {
      stream_id = k;
      ppid = i.ppid;
      payload = i.payload;
      expires_in_ms = expires_in now i.expires_at;
      max_retransmissions = i.max_retransmissions;
      unordered = i.unordered;
      lifecycle_id = i.lifecycle_id;
      message_id = i.message_id;
      remaining_offset = i.offset;
      mid = i.mid;
      ssn = ssn_state i.unordered i.mid i.ssn;
      fsn = i.fsn;
    }

unfoldable pub message_states : ℕ → List Stream → List StreamMessageState
unfolding message_state
message_states now [] = []
message_states now (s ∷ ss) = map (message_state now s.id) s.items ++ message_states now ss

unfoldable pub handover_state : ℕ → Queue → HandoverState
unfolding stream_state message_states
handover_state now q = record { next_message_id = q.next_message_id; streams = map stream_state q.streams; queued_messages = message_states now q.streams }

-- ------------------------------------------------------------------ restore_from_state

unfoldable pub stream_from : Options → OutgoingStreamState → Stream
stream_from o r =
    record {
      id = r.id;
      priority = r.priority;
      pause_state = not_paused;
      counters = record { next_ssn = r.next_ssn; next_unordered_mid = r.next_unordered_mid; next_ordered_mid = r.next_ordered_mid };
      amount = 0;
      threshold = o.default_threshold;
      items = [];
    }

-- expires_in_ms.map_or(infinite_future, |ms| now + from_millis(ms)).
unfoldable pub expires_from : ℕ → Option ℕ → Option ℕ
expires_from now none = none
expires_from now (some ms) = some (now + ms * 1000000)

unfoldable pub item_from : ℕ → StreamMessageState → Item
unfolding expires_from
item_from now r =
    record {
      message_id = r.message_id;
      ppid = r.ppid;
      unordered = r.unordered;
      max_retransmissions = r.max_retransmissions;
      expires_at = expires_from now r.expires_in_ms;
      lifecycle_id = r.lifecycle_id;
      payload = r.payload;
      offset = min r.remaining_offset (length r.payload);
      mid = r.mid;
      ssn = get_or r.ssn 0;
      fsn = r.fsn;
    }

-- Each message goes to its stream's end; a stream that only messages name is made with the defaults.
unfoldable pub messages_from : Options → ℕ → List StreamMessageState → List Stream → List Stream
unfolding find put item_from
messages_from o now [] ss = ss
messages_from o now (r ∷ rs) ss = messages_from o now rs (put_stream (with_message (at o ss r.stream_id) (item_from now r)) ss)

-- The queue that the Rust restores: every stream with messages waits.
unfoldable pub restore_from_state : ℕ → HandoverState → Queue → Queue
unfolding stream_from messages_from reschedule_each has_items
restore_from_state now h q =
    let ss = messages_from q.options now h.queued_messages (map (stream_from q.options) h.streams) in
    record { options = q.options; interleaving = q.interleaving; total = amounts ss; next_message_id = h.next_message_id; streams = ss; scheduler = reschedule_each q.interleaving has_items ss q.scheduler }

-- ------------------------------------------------------------------ the amendment of document 02's 10/13

-- "the stream whose first message is half-sent, the smallest id if several are": of the record's messages, which stand by rising stream, the first that
-- is half-sent.
unfoldable pub begun_stream : List StreamMessageState → Option ℕ
begun_stream [] = none
begun_stream (r ∷ rs) = if ltb 0 r.remaining_offset then some r.stream_id else begun_stream rs

unfoldable pub remembering : Bool → Option ℕ → Queue → Queue
remembering true k q = q
remembering false k q = with_state q q.total q.streams (record { payload_limit = q.scheduler.payload_limit; current = k; system_time = q.scheduler.system_time; active = q.scheduler.active })

-- "Restoring without interleaving shall remember the stream ...": the queue that the Rust restores, with that stream remembered.
unfoldable pub restore_remembering : ℕ → HandoverState → Queue → Queue
unfolding restore_from_state begun_stream remembering
restore_remembering now h q = remembering q.interleaving (begun_stream h.queued_messages) (restore_from_state now h q)
