-- What a call that changes the queue answers, in document 01's numbers: accepted, with so many events written, or refused. Assumes nothing.
use Rattle.std.specs.Prelude.{ℕ}

pub data Call : Type 0 where
  Accepted : ℕ → Call
  Refused : ℕ → Call
