-- The numbers of a message. Assumes nothing.
use Rattle.std.specs.Prelude.{Some}
use Rattle.std.specs.Prelude.{ℕ, Bool}
use Rattle.types.specs.Wrap.{wrapping_add}
use Rattle.types.specs.declared.Fsn.{Fsn}
use Rattle.types.specs.declared.Mid.{Mid}
use Rattle.types.specs.declared.Ssn.{Ssn}
use Rattle.queue_words.specs.Flags.{pick}
use Rattle.queue_words.specs.Items.{are_given}
use Rattle.queue_words.specs.declared.items.Item.{Item}
use Rattle.queue_words.specs.Items.{Numbers}
use Rattle.queue_words.specs.declared.streams.OutgoingStream.{OutgoingStream}
use Rattle.message_chains.specs.Amounts.{sum}
use Rattle.message_chains.specs.Numbers.{with_numbers}

-- "MID (message identifier) and FSN (fragment number) are 32 bits, SSN (stream sequence number) 16, and each adds modulo its width": the next ones.
abbrev pub next_mid : Mid → Mid
next_mid m = record { 0 = wrapping_add 32 m.0 1 }

abbrev pub next_ssn : Ssn → Ssn
next_ssn s = record { 0 = wrapping_add 16 s.0 1 }

abbrev pub next_fsn : Fsn → Fsn
next_fsn f = record { 0 = wrapping_add 32 f.0 1 }

-- the MID and SSN that a stream gives next: "ordered and unordered counting separately in each stream; only ordered ones get an SSN, others show 0"
abbrev pub next_numbers : OutgoingStream → Bool → Numbers
next_numbers s unordered = pick unordered (Some (record { mid = s.next_unordered_mid; ssn = (record { 0 = 0 }) })) (Some (record { mid = s.next_ordered_mid; ssn = s.next_ssn }))

-- "A message gets its MID when its first fragment is made, ordered and unordered counting separately in each stream; only ordered ones get an SSN,
-- others show 0."
unfoldable pub numbered_item : OutgoingStream → Item → Item
numbered_item s m = pick (are_given m.numbers) m (with_numbers m (next_numbers s m.unordered))

-- a stream with other counters
abbrev pub with_counters : OutgoingStream → Ssn → Mid → Mid → OutgoingStream
with_counters s ssn unordered ordered = record {
  priority = s.priority;
  pause_state = s.pause_state;
  next_ssn = ssn;
  next_unordered_mid = unordered;
  next_ordered_mid = ordered;
  buffered_amount = s.buffered_amount;
  low_threshold = s.low_threshold;
  first = s.first;
  last = s.last;
}

-- the stream after it has given a message its numbers
unfoldable pub numbered_stream : OutgoingStream → Item → OutgoingStream
numbered_stream s m =
    pick (are_given m.numbers) s
    (pick m.unordered (with_counters s s.next_ssn (next_mid s.next_unordered_mid) s.next_ordered_mid)
    (with_counters s (next_ssn s.next_ssn) s.next_unordered_mid (next_mid s.next_ordered_mid)))

-- "FSN grows by one a fragment": a numbered message after a fragment of n bytes that is not its last.
unfoldable pub moved_on_words : Item → ℕ → Item
moved_on_words m n = record {
  max_retransmissions = m.max_retransmissions;
  unordered = m.unordered;
  message_id = m.message_id;
  ppid = m.ppid;
  numbers = m.numbers;
  fsn = next_fsn m.fsn;
  expires_at = m.expires_at;
  lifecycle_id = m.lifecycle_id;
  place = m.place;
  length = m.length;
  offset = sum m.offset n;
  next = m.next;
}
