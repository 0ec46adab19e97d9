-- What fetching a message answers, in document 02's numbers: refused, that none is ready, or the message. Assumes nothing.
use Rattle.std.specs.Prelude.{ℕ}
use Rattle.receiver_fragments.specs.declared.answers.Delivery.{Delivery}

pub data Fetched : Type 0 where
  Refused : ℕ → Fetched
  NoneReady : Fetched
  Message : Delivery → Fetched
