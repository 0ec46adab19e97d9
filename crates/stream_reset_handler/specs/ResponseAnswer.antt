-- What receiving a response answers, in the documents' numbers. Assumes nothing.
use Rattle.std.specs.Prelude.{ℕ}

pub data ResponseAnswer : Type 0 where
  Ignored Committed RolledBack StillWaiting : ResponseAnswer
  Refused : ℕ → ResponseAnswer
