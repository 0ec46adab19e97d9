-- What writing a chunk answers and leaves, for every input. Assumes nothing.
use Rattle.std.specs.Prelude.{ℕ, ◌+◌, List, ◌++◌, ltb, length, drop}
use Rattle.std.specs.Prelude.{if◌then◌else◌}
use Rattle.queue_model.specs.Logic.{outside}
use Rattle.queue_sending.specs.declared.data.DataToSend.{DataToSend}
use Rattle.chunks.specs.declared.chunk.ChunkKind.{ChunkKind}
use Rattle.chunks.specs.ChunkWritten.{ChunkWritten}
use Rattle.chunks.specs.ChunkWritten as answer
use Rattle.queue_model.specs.Chunks.{padded}
use Rattle.chunks.specs.Layout.{header_size, chunk_bytes}

-- The answer, and the lent output.
pub record Outcome : Type 0 where
  pub answer : ChunkWritten
  pub output : List ℕ

abbrev pub outcome : ChunkWritten → List ℕ → Outcome
outcome a out = record { answer = a; output = out }

-- The most payload bytes that are written into a chunk, of either kind.
abbrev pub max_written : ℕ
max_written = 65515

-- "17 when a payload to write is empty or above 65,515 bytes, 18 when the output is shorter than the padded chunk, [..] checked in this order"; "lent
-- output past what
-- is written stays unchanged". A refusal leaves all of it.
unfoldable pub write_chunk : List ℕ → ChunkKind → ℕ → DataToSend → List ℕ → Outcome
write_chunk out k tsn f payload =
    if outside 1 max_written (length payload) then outcome (answer.Refused 17) out
    else (if ltb (length out) (padded (header_size k + length payload)) then outcome (answer.Refused 18) out
    else outcome (answer.Bytes (padded (header_size k + length payload))) (chunk_bytes k tsn f.«data» payload ++ drop (padded (header_size k + length payload)) out))
