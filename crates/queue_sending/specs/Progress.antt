-- A message that goes on: the words that a fragment in its middle changes. Assumes nothing.
use Rattle.std.specs.Prelude.{ℕ, ◌+◌, ◌*◌, List, set}
use Rattle.queue_words.specs.declared.header.Totals.{Totals}
use Rattle.queue_words.specs.declared.items.Item.{Item}
use Rattle.queue_words.specs.declared.streams.OutgoingStream.{OutgoingStream}

-- the total; of the stream in a row its amount; of the message in a place its FSN and offset
unfoldable pub put_progress : List ℕ → ℕ → ℕ → ℕ → ℕ → ℕ → ℕ → List ℕ
put_progress ws row place total amount fsn offset =
    set (set (set (set ws 9 total) (544 + row * 10 + 5) amount) (3104 + place * 16 + 8) fsn) (3104 + place * 16 + 13) offset

-- totals with another total
abbrev pub with_total : Totals → ℕ → Totals
with_total t total = record {
  interleaving = t.interleaving;
  next_message_id = t.next_message_id;
  total = total;
  known = t.known;
  waiting = t.waiting;
  free = t.free;
  used = t.used;
  gaps = t.gaps;
}

-- a stream with another amount
abbrev pub with_amount : OutgoingStream → ℕ → OutgoingStream
with_amount s amount = record {
  priority = s.priority;
  pause_state = s.pause_state;
  next_ssn = s.next_ssn;
  next_unordered_mid = s.next_unordered_mid;
  next_ordered_mid = s.next_ordered_mid;
  buffered_amount = amount;
  low_threshold = s.low_threshold;
  first = s.first;
  last = s.last;
}

-- a message with another FSN and offset
abbrev pub with_part : Item → ℕ → ℕ → Item
with_part m fsn offset = record {
  max_retransmissions = m.max_retransmissions;
  unordered = m.unordered;
  message_id = m.message_id;
  ppid = m.ppid;
  numbers = m.numbers;
  fsn = record { 0 = fsn };
  expires_at = m.expires_at;
  lifecycle_id = m.lifecycle_id;
  place = m.place;
  length = m.length;
  offset = offset;
  next = m.next;
}
