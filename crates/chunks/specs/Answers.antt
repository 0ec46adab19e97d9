-- What the code answers, in document 02's numbers. Assumes nothing.
use Rattle.std.specs.Prelude.{ℕ, Result, Ok, Err}
use Rattle.types.specs.Refusal.{refusal_number}
use Rattle.types.specs.declared.refusal.Refusal.{Refusal}
use Rattle.chunks.specs.ChunkRead.{ChunkRead}
use Rattle.chunks.specs.ChunkRead as read
use Rattle.chunks.specs.ChunkWritten.{ChunkWritten}
use Rattle.chunks.specs.ChunkWritten as written
use Rattle.chunks.specs.declared.chunk.Chunk.{Chunk}

abbrev pub as_read : Result Chunk Refusal → ChunkRead
as_read (Ok c) = read.Read c
as_read (Err r) = read.Refused (refusal_number r)

abbrev pub as_written : Result ℕ Refusal → ChunkWritten
as_written (Ok n) = written.Bytes n
as_written (Err r) = written.Refused (refusal_number r)
