-- What making a request answers, in the documents' numbers: a message of so many bytes; no stream ready; or refused. Assumes nothing.
use Rattle.std.specs.Prelude.{ℕ}

pub data RequestAnswer : Type 0 where
  Written : ℕ → RequestAnswer
  NoneReady : RequestAnswer
  Refused : ℕ → RequestAnswer
