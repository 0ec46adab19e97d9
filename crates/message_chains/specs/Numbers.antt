-- A message with other numbers. Assumes nothing.
use Rattle.queue_words.specs.declared.items.Item.{Item}
use Rattle.queue_words.specs.Items.{Numbers}

abbrev pub with_numbers : Item → Numbers → Item
with_numbers m n = record {
  max_retransmissions = m.max_retransmissions;
  unordered = m.unordered;
  message_id = m.message_id;
  ppid = m.ppid;
  numbers = n;
  fsn = m.fsn;
  expires_at = m.expires_at;
  lifecycle_id = m.lifecycle_id;
  place = m.place;
  length = m.length;
  offset = m.offset;
  next = m.next;
}
