-- A message as it is handed over, and as it waits. Assumes nothing.
use Rattle.std.specs.Prelude.{ℕ, ◌+◌, Option, Some, None}
use Rattle.queue_words.specs.Items.{Expiry}
use Rattle.queue_words.specs.declared.items.Item.{Item}
use Rattle.types.specs.declared.OutgoingMessageId.{OutgoingMessageId}
use Rattle.queue_messages.specs.declared.message.Message.{Message}

-- a message's lifetime in nanoseconds, and its limit of retransmissions, where one is given
abbrev pub Lifetime : Type 0
Lifetime = Option ℕ

abbrev pub MaxRetransmissions : Type 0
MaxRetransmissions = Option ℕ

-- "no retransmission limit given means 65,535".
abbrev pub retransmissions : MaxRetransmissions → ℕ
retransmissions None = 65535
retransmissions (Some n) = n

-- a lifetime's nanoseconds, 0 where there is none
abbrev pub nanoseconds : Lifetime → ℕ
nanoseconds None = 0
nanoseconds (Some n) = n

-- "a lifetime sets now + lifetime + 1 ms, else never".
unfoldable pub expiry : ℕ → Lifetime → Expiry
expiry now None = None
expiry now (Some n) = Some (now + n + 1000000)

-- the message as it waits, the last of its chain, its payload not yet stored (Rust: Item::new)
unfoldable pub new_item_words : ℕ → OutgoingMessageId → Message → Item
new_item_words now id m = record {
  max_retransmissions = retransmissions m.max_retransmissions;
  unordered = m.unordered;
  message_id = id;
  ppid = m.ppid;
  numbers = None;
  fsn = record { 0 = 0 };
  expires_at = expiry now m.lifetime;
  lifecycle_id = m.lifecycle_id;
  place = 0;
  length = 0;
  offset = 0;
  next = 1024;
}
