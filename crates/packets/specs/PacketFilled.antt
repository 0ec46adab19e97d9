-- What filling a packet answers, in the documents' numbers: how many events are written, "the bytes and chunks written"; or refused. Assumes nothing.
use Rattle.std.specs.Prelude.{ℕ}

pub data PacketFilled : Type 0 where
  Filled : ℕ → ℕ → ℕ → PacketFilled
  Refused : ℕ → PacketFilled
