-- What writing a chunk answers, in document 02's numbers: the bytes written, padding included; or refused. Assumes nothing.
use Rattle.std.specs.Prelude.{ℕ}

pub data ChunkWritten : Type 0 where
  Bytes : ℕ → ChunkWritten
  Refused : ℕ → ChunkWritten
