-- The bytes of a fragment's chunk: document 02's layout (queue_model's Chunks) over the code's values. Assumes nothing.
use Rattle.std.specs.Prelude.{ℕ, Bool, true, false, List}
use Rattle.types.specs.Keys.{key_id, key_unordered}
use Rattle.queue_model.specs.Chunks.{ChunkFields, chunk_widths, chunk_header, chunk_flags, chunk_row, chunk_layout, model_chunk_bytes}
use Rattle.queue_sending.specs.declared.data.Data.{Data}
use Rattle.chunks.specs.declared.chunk.ChunkKind.{ChunkKind}
use Rattle.chunks.specs.declared.chunk.ChunkKind.TheVariants as kind

abbrev pub is_iData : ChunkKind → Bool
is_iData kind.Data = false
is_iData kind.IData = true

-- the numbers and marks of a fragment, and its TSN
abbrev pub fields_of : ℕ → Data → ChunkFields
fields_of t d = record {
  tsn = t;
  stream_id = (key_id d.stream_key).0;
  unordered = key_unordered d.stream_key;
  ssn = d.ssn.0;
  mid = d.mid.0;
  fsn = d.fsn.0;
  ppid = d.ppid;
  first = d.is_beginning;
  last = d.is_end;
}

abbrev pub header_widths : ChunkKind → List ℕ
header_widths k = chunk_widths (is_iData k)

abbrev pub header_size : ChunkKind → ℕ
header_size k = chunk_header (is_iData k)

-- the marks; no TSN is in them
abbrev pub flags_of : Data → ℕ
flags_of d = chunk_flags (fields_of 0 d)

abbrev pub header_row : ChunkKind → ℕ → ℕ → ℕ → Data → ℕ → List ℕ
header_row k flags reserved tsn d len = chunk_row (is_iData k) flags reserved (fields_of tsn d) len

abbrev pub layout : ChunkKind → ℕ → ℕ → ℕ → Data → List ℕ → List ℕ → List ℕ
layout k flags reserved tsn d payload pad = chunk_layout (is_iData k) flags reserved (fields_of tsn d) payload pad

abbrev pub chunk_bytes : ChunkKind → ℕ → Data → List ℕ → List ℕ
chunk_bytes k tsn d payload = model_chunk_bytes (is_iData k) (fields_of tsn d) payload
