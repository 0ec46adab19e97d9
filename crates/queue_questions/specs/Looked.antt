-- The stream that a question finds: the known one or a new one; broken where a place kept in the state lies outside its table. Assumes nothing.
use Rattle.queue_words.specs.declared.streams.OutgoingStream.{OutgoingStream}

pub data Looked : Type 0 where
  Stream : OutgoingStream → Looked
  Broken : Looked
