-- The answer of the next fragment, in document 01's numbers: nothing waits, or a fragment, each with so many events written; or refused. Assumes nothing.
use Rattle.std.specs.Prelude.{ℕ}
use Rattle.queue_sending.specs.declared.data.DataToSend.{DataToSend}

pub data Produced : Type 0 where
  Nothing : ℕ → Produced
  Fragment : ℕ → DataToSend → Produced
  Refused : ℕ → Produced
