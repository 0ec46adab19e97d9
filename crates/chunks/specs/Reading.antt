-- What reading a chunk answers, on any bytes. Assumes nothing.
use Rattle.std.specs.Prelude.{ℕ, ◌-◌, ◌/◌, ◌%◌, Bool, true, false, List, eqb, ltb, length, take, drop}
use Rattle.types.specs.Keys.{key_of}
use Rattle.std.specs.Prelude.{if◌then◌else◌}
use Rattle.queue_sending.specs.declared.data.DataToSend.{DataToSend}
use Rattle.big_endian.specs.Numbers.{number_at}
use Rattle.chunks.specs.declared.chunk.Chunk.{Chunk}
use Rattle.chunks.specs.declared.chunk.ChunkKind.{ChunkKind}
use Rattle.chunks.specs.declared.chunk.ChunkKind.TheVariants as kind
use Rattle.chunks.specs.ChunkRead.{ChunkRead}
use Rattle.chunks.specs.ChunkRead.{Read, Refused}
use Rattle.queue_model.specs.Chunks.{chunk_type, padded}
use Rattle.chunks.specs.Layout.{header_size}
use Rattle.chunks.specs.Carried.{only_data}

-- whether flags have the mark 4 (unordered), 2 (first) or 1 (last)
abbrev pub is_set : ℕ → ℕ → Bool
is_set flags mark = eqb (flags / mark % 2) 1

-- what the numbers of a header say
abbrev pub fragment_of : ℕ → ℕ → ℕ → ℕ → ℕ → ℕ → ℕ → DataToSend
fragment_of flags id ssn mid fsn ppid n = only_data (record {
  stream_key = key_of (is_set flags 4) (record { 0 = id });
  ssn = record { 0 = ssn };
  mid = record { 0 = mid };
  fsn = record { 0 = fsn };
  ppid = ppid;
  is_beginning = is_set flags 2;
  is_end = is_set flags 1;
  length = n;
})

abbrev pub chunk : ChunkKind → ℕ → DataToSend → Chunk
chunk k tsn f = record { kind = k; tsn = tsn; fragment = f; payload_at = header_size k }

-- What bytes with the length field len say if they are a chunk of the kind: "ignores other flags and the reserved bits".
unfoldable pub chunk_at : ChunkKind → List ℕ → ℕ → Chunk
chunk_at kind.Data bs len =
    chunk kind.Data (number_at bs 4 4) (fragment_of (number_at bs 1 1) (number_at bs 8 2) (number_at bs 10 2) 0 0 (number_at bs 12 4) (len - 16))
chunk_at kind.IData bs len =
    chunk kind.IData (number_at bs 4 4)
    (fragment_of (number_at bs 1 1) (number_at bs 8 2) 0 (number_at bs 12 4) (if is_set (number_at bs 1 1) 2 then 0 else number_at bs 16 4) (if is_set (number_at bs 1 1) 2 then number_at bs 16 4 else 0) (len - 20))

-- "with payload": the length is above the header's.
abbrev pub read_as : ChunkKind → List ℕ → ℕ → ChunkRead
read_as k bs len = if ltb (header_size k) len then Read (chunk_at k bs len) else Refused 19

-- by the type: 0 DATA, 64 I-DATA
abbrev pub read_typed : ℕ → List ℕ → ℕ → ChunkRead
read_typed type bs len = if eqb type (chunk_type false) then read_as kind.Data bs len else (if eqb type (chunk_type true) then read_as kind.IData bs len else Refused 19)

-- "The reader wants the padding there, of any value"; "19 when bytes read are not one such chunk with payload".
unfoldable pub read_chunk : List ℕ → ChunkRead
read_chunk bs = if eqb (padded (number_at bs 2 2)) (length bs) then read_typed (number_at bs 0 1) bs (number_at bs 2 2) else Refused 19

-- the payload of a chunk read from bs
abbrev pub payload_of : Chunk → List ℕ → List ℕ
payload_of c bs = take c.fragment.«data».length (drop c.payload_at bs)
