-- The records of a queue's streams and messages, on the words. Assumes nothing.
use Rattle.std.specs.Prelude.{Some, None}
use Rattle.std.specs.Prelude.{ℕ, ◌+◌, ◌-◌, ◌*◌, ◌/◌, List, ltb, leb}
use Rattle.queue_words.specs.Flags.{pick}
use Rattle.queue_words.specs.Header.{options_at, totals_at}
use Rattle.queue_words.specs.Items.{has_expiry, are_given, mid_in, ssn_in}
use Rattle.queue_words.specs.Items.{Expiry}
use Rattle.queue_words.specs.declared.items.Item.{Item}
use Rattle.queue_words.specs.declared.streams.OutgoingStream.{OutgoingStream}
use Rattle.handover_records.specs.declared.records.HandoverOutgoingStream.{HandoverOutgoingStream}
use Rattle.handover_records.specs.declared.records.HandoverStreamMessage.{HandoverStreamMessage}
use Rattle.handover_records.specs.declared.records.Trailer.{Trailer}
use Rattle.saving.specs.declared.measuring.Tally.{Tally}

abbrev pub stream_record_words : ℕ → OutgoingStream → HandoverOutgoingStream
stream_record_words id s = record {
  id = id;
  next_ssn = s.next_ssn.0;
  next_unordered_mid = s.next_unordered_mid.0;
  next_ordered_mid = s.next_ordered_mid.0;
  priority = s.priority;
}

-- "flags 1 (a sum of 1 unordered, 2 MID given, 4 lifetime, no other bit)"
abbrev pub flags_of : Item → ℕ
flags_of m = pick m.unordered 1 0 + pick (are_given m.numbers) 2 0 + pick (has_expiry m.expires_at) 4 0

-- "Milliseconds left are rounded down, 0 if past, at most 2,147,483,647."
unfoldable pub left_at : ℕ → ℕ → ℕ
left_at time at = pick (leb at time) 0 (pick (ltb 2147483647 ((at - time) / 1000000)) 2147483647 ((at - time) / 1000000))

abbrev pub left_of : Expiry → ℕ → ℕ
left_of None time = 0
left_of (Some t) time = left_at time t

unfoldable pub ms_left : Item → ℕ → ℕ
ms_left m time = left_of m.expires_at time

-- "Fields not given are 0."
unfoldable pub message_record_words : Item → ℕ → ℕ → HandoverStreamMessage
message_record_words m id time = record {
  id = id;
  flags = flags_of m;
  zero = 0;
  ppid = m.ppid;
  ms_left = ms_left m time;
  max_retransmissions = m.max_retransmissions;
  ssn = (ssn_in m.numbers).0;
  mid = (mid_in m.numbers).0;
  fsn = m.fsn.0;
  lifecycle_id = m.lifecycle_id;
  message_id = m.message_id.0;
  offset = m.offset;
  length = m.length;
}

-- "Last the trailer's 20 bytes, pointing back": the counts and sizes are those of the first pass.
abbrev pub trailer_of : List ℕ → Tally → Trailer
trailer_of ws t = record {
  next_message_id = (totals_at ws).next_message_id.0;
  default_priority = (options_at ws).default_priority;
  streams = t.streams;
  messages = t.messages;
  form = 1;
  messages_size = t.bytes;
  streams_size = t.streams * 14;
}
