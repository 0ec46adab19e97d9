-- Chunks as numbers, for a host in C or Rust. Assumes nothing.
use Rattle.std.specs.Prelude.{ℕ, Bool, true, false, List, set}
use Rattle.types.specs.Keys.{key_of}
use Rattle.queue_sending.specs.declared.data.DataToSend.{DataToSend}
use Rattle.chunks.specs.declared.chunk.ChunkKind.{ChunkKind}
use Rattle.chunks.specs.declared.chunk.ChunkKind.TheVariants as kind
use Rattle.chunks.specs.ChunkRead.{ChunkRead}
use Rattle.chunks.specs.ChunkRead as read
use Rattle.chunks.specs.ChunkWritten.{ChunkWritten}
use Rattle.chunks.specs.ChunkWritten as written
use Rattle.chunks.specs.Carried.{only_data}
use Rattle.send_queue_c.specs.Numbers.{is_yes, shown}

-- DSQ_CHUNK_DATA is 0, DSQ_CHUNK_I_DATA 1; anything but 0 is I-DATA.
abbrev pub kind_of : Bool → ChunkKind
kind_of true = kind.IData
kind_of false = kind.Data

abbrev pub kind_number : ChunkKind → ℕ
kind_number kind.Data = 0
kind_number kind.IData = 1

-- ------------------------------------------------------------------ writing

-- a fragment of n bytes by its numbers
abbrev pub fragment_of : ℕ → ℕ → ℕ → ℕ → ℕ → ℕ → ℕ → ℕ → ℕ → DataToSend
fragment_of stream unordered ssn mid fsn ppid first last n = only_data (record {
  stream_key = key_of (is_yes unordered) (record { 0 = stream });
  ssn = record { 0 = ssn };
  mid = record { 0 = mid };
  fsn = record { 0 = fsn };
  ppid = ppid;
  is_beginning = is_yes first;
  is_end = is_yes last;
  length = n;
})

abbrev pub written_number : ChunkWritten → ℕ
written_number (written.Bytes n) = 0
written_number (written.Refused n) = n

-- the bytes written, with their padding
abbrev pub written_out : List ℕ → ChunkWritten → List ℕ
written_out out (written.Bytes n) = set out 0 n
written_out out (written.Refused n) = out

-- ------------------------------------------------------------------ reading

abbrev pub read_number : ChunkRead → ℕ
read_number (read.Read c) = 0
read_number (read.Refused n) = n

-- the fragment as the next fragment tells it; no events
abbrev pub read_out : List ℕ → ChunkRead → List ℕ
read_out out (read.Read c) = shown out 0 c.fragment
read_out out (read.Refused n) = out

-- kind, TSN and where the payload begins
abbrev pub places_of : List ℕ → ChunkKind → ℕ → ℕ → List ℕ
places_of places k tsn at = set (set (set places 0 (kind_number k)) 1 tsn) 2 at

abbrev pub read_places : List ℕ → ChunkRead → List ℕ
read_places places (read.Read c) = places_of places c.kind c.tsn c.payload_at
read_places places (read.Refused n) = places
