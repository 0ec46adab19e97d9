-- What reading a chunk answers, in document 02's numbers: the chunk, or refused. Assumes nothing.
use Rattle.std.specs.Prelude.{ℕ}
use Rattle.chunks.specs.declared.chunk.Chunk.{Chunk}

pub data ChunkRead : Type 0 where
  Read : Chunk → ChunkRead
  Refused : ℕ → ChunkRead
