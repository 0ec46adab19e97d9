-- The model's message of one that is handed over. Assumes nothing.
use Rattle.std.specs.Prelude.{ℕ, List, Some, None}
use Rattle.std.proofs.Math.Option.{Option, none, some}
use Rattle.queue_model.specs.Types as plain
use Rattle.queue_messages.specs.Message.{Lifetime, MaxRetransmissions}
use Rattle.queue_messages.specs.declared.message.Message.{Message}

-- What is given, as the model has it.
abbrev pub retransmissions_of : MaxRetransmissions → Option ℕ
retransmissions_of None = none
retransmissions_of (Some n) = some n

abbrev pub lifetime_of : Lifetime → Option ℕ
lifetime_of None = none
lifetime_of (Some n) = some n

-- a message with its payload
abbrev pub message_of_words : Message → List ℕ → plain.Message
message_of_words m bs = record {
  stream_id = m.stream_id.0;
  ppid = m.ppid;
  unordered = m.unordered;
  max_retransmissions = retransmissions_of m.max_retransmissions;
  lifetime = lifetime_of m.lifetime;
  lifecycle_id = m.lifecycle_id;
  payload = bs;
}
