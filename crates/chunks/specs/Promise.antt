-- What is promised of chunks: when bytes are one chunk, whatever its flags, reserved bits and padding. Assumes nothing.
use Rattle.std.specs.Prelude.{◌≡◌, List, ◌++◌, ℕ, ◌+◌, ◌%◌, ◌≤◌, ◌<◌, length, get_or, set, take, replicate}
use Rattle.types.specs.Keys.{key_id}
use Rattle.queue_sending.specs.declared.data.Data.{Data}
use Rattle.queue_sending.specs.declared.data.DataToSend.{DataToSend}
use Rattle.chunks.specs.declared.chunk.ChunkKind.{ChunkKind}
use Rattle.chunks.specs.declared.chunk.ChunkKind.TheVariants as kind
use Rattle.chunks.specs.declared.chunk.Chunk.{Chunk}
use Rattle.chunks.specs.ChunkRead.{ChunkRead}
use Rattle.chunks.specs.ChunkRead.{Read, Refused}
use Rattle.chunks.specs.ChunkWritten.{ChunkWritten}
use Rattle.chunks.specs.ChunkWritten.{Bytes}
use Rattle.queue_model.specs.Chunks.{padding}
use Rattle.chunks.specs.Layout.{header_size, flags_of, layout}
use Rattle.chunks.specs.Writing.{outcome, write_chunk}
use Rattle.chunks.specs.Reading.{chunk, read_chunk, payload_of}
use Rattle.chunks.specs.Carried.{carried}

-- The numbers that a chunk can carry are in their widths, as the code's are.
pub record InWidth (tsn : ℕ) (d : Data) : Type 0 where
  pub tsn_fits : tsn < 4294967296
  pub id_fits : (key_id d.stream_key).0 < 65536
  pub ssn_fits : d.ssn.0 < 65536
  pub mid_fits : d.mid.0 < 4294967296
  pub fsn_fits : d.fsn.0 < 4294967296
  pub ppid_fits : d.ppid < 4294967296

-- bs are one chunk of the kind, with the TSN, the data and the payload: any other flags beside the three marks, any reserved bits, "the padding there,
-- of any value".
pub record LaidOut (bs : List ℕ) (k : ChunkKind) (tsn : ℕ) (d : Data) (payload : List ℕ) : Type 0 where
  pub flags : ℕ
  pub reserved : ℕ
  pub pad : List ℕ
  pub in_width : InWidth tsn d
  pub flags_fit : flags < 256
  pub marks : flags % 8 ≡ flags_of d
  pub reserved_fit : reserved < 65536
  pub some : 1 ≤ length payload
  pub most : header_size k + length payload ≤ 65535
  pub pad_length : length pad ≡ padding (header_size k + length payload)
  pub bytes : bs ≡ layout k flags reserved tsn d payload pad

-- "one such chunk with payload"
pub record IsChunk (bs : List ℕ) : Type 0 where
  pub kind : ChunkKind
  pub tsn : ℕ
  pub «data» : Data
  pub payload : List ℕ
  pub laid : LaidOut bs kind tsn «data» payload

-- What bytes written as a chunk are read as: "a written fragment returns the same but for those fields at 0", and its payload is there.
pub record ReadsBack (bs : List ℕ) (k : ChunkKind) (tsn : ℕ) (f : DataToSend) (payload : List ℕ) : Type 0 where
  pub chunk_read : read_chunk bs ≡ Read (chunk k tsn (carried k f (length payload)))
  pub payload_read : payload_of (chunk k tsn (carried k f (length payload))) bs ≡ payload

-- Writing a chunk answers r and leaves out': on every input the definition, and what was written reads back.
pub record WriteMeets (out : List ℕ) (k : ChunkKind) (tsn : ℕ) (f : DataToSend) (payload : List ℕ) (r : ChunkWritten) (out' : List ℕ) : Type 0 where
  pub is : outcome r out' ≡ write_chunk out k tsn f payload
  pub returns : (n : ℕ) → r ≡ Bytes n → ReadsBack (take n out') k tsn f payload

-- Reading bytes answers r: on every input the definition; a chunk exactly if they are one, and that one, else 19.
pub record ReadMeets (bs : List ℕ) (r : ChunkRead) : Type 0 where
  pub is : r ≡ read_chunk bs
  pub laid : (c : Chunk) → r ≡ Read c → LaidOut bs c.kind c.tsn c.fragment.«data» (payload_of c bs)
  pub none : (n : ℕ) → r ≡ Refused n → (n ≡ 19) × (IsChunk bs → ⊥)

-- The bytes of a chunk without what the reader ignores: the other flags and the reserved bits at 0, and zeros behind the first len bytes.
abbrev pub cleared : ChunkKind → List ℕ → List ℕ
cleared kind.Data bs = set bs 1 (get_or bs 1 0 % 8)
cleared kind.IData bs = set (set (set bs 1 (get_or bs 1 0 % 8)) 10 0) 11 0

unfoldable pub canonical : ChunkKind → List ℕ → ℕ → List ℕ
canonical k bs len = take len (cleared k bs) ++ replicate (padding len) 0
