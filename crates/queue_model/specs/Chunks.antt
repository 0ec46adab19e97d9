-- The bytes of chunks on the wire (document 02, 1/13). Assumes nothing.
use Rattle.std.specs.Prelude.{ℕ, ◌+◌, ◌-◌, ◌%◌, Bool, true, false, List, [], ◌∷◌, ◌++◌, length, replicate}
use Rattle.std.specs.Prelude.{if◌then◌else◌}
use Rattle.queue_model.specs.Bytes.{row_bytes}

-- What a chunk can carry beside its payload.
pub record ChunkFields : Type 0 where
  pub tsn : ℕ
  pub stream_id : ℕ
  pub unordered : Bool
  pub ssn : ℕ
  pub mid : ℕ
  pub fsn : ℕ
  pub ppid : ℕ
  pub first : Bool
  pub last : Bool

-- "DATA (RFC 9260) has type 0; I-DATA (RFC 8260) has type 64." A chunk is I-DATA for `true`.
abbrev pub chunk_type : Bool → ℕ
chunk_type false = 0
chunk_type true = 64

-- "Both start with type, flags (4 unordered, 2 first, 1 last) and a 16-bit length without padding, then the 32-bit TSN and 16-bit stream id. DATA goes
-- on with SSN
-- and payload protocol id. I-DATA goes on with 16 reserved bits, MID, and the protocol id on a first fragment or the FSN on others." The widths in bytes.
abbrev pub chunk_widths : Bool → List ℕ
chunk_widths false = 1 ∷ 1 ∷ 2 ∷ 4 ∷ 2 ∷ 2 ∷ 4 ∷ []
chunk_widths true = 1 ∷ 1 ∷ 2 ∷ 4 ∷ 2 ∷ 2 ∷ 4 ∷ 4 ∷ []

-- Their sum: "the chunk header (16, or 20 for I-DATA)" (5/13).
abbrev pub chunk_header : Bool → ℕ
chunk_header false = 16
chunk_header true = 20

-- "4 unordered, 2 first, 1 last"
abbrev pub chunk_flags : ChunkFields → ℕ
chunk_flags c = (if c.unordered then 4 else 0) + (if c.first then 2 else 0) + (if c.last then 1 else 0)

-- "the protocol id on a first fragment or the FSN on others"
abbrev pub last_word : ChunkFields → ℕ
last_word c = if c.first then c.ppid else c.fsn

-- The numbers of a header with these flags and reserved bits; len is the length without padding.
abbrev pub chunk_row : Bool → ℕ → ℕ → ChunkFields → ℕ → List ℕ
chunk_row false flags reserved c len = chunk_type false ∷ flags ∷ len ∷ c.tsn ∷ c.stream_id ∷ c.ssn ∷ c.ppid ∷ []
chunk_row true flags reserved c len = chunk_type true ∷ flags ∷ len ∷ c.tsn ∷ c.stream_id ∷ reserved ∷ c.mid ∷ last_word c ∷ []

-- A chunk with any flags, reserved bits and padding: header, payload, padding.
unfoldable pub chunk_layout : Bool → ℕ → ℕ → ChunkFields → List ℕ → List ℕ → List ℕ
chunk_layout i flags reserved c payload pad = row_bytes (chunk_widths i) (chunk_row i flags reserved c (chunk_header i + length payload)) ++ (payload ++ pad)

-- "Zeros pad to a multiple of 4": how many for so many bytes, and how many bytes that are.
unfoldable pub padding : ℕ → ℕ
padding n = (4 - n % 4) % 4

abbrev pub padded : ℕ → ℕ
padded n = n + padding n

-- The bytes that a chunk with n payload bytes takes.
abbrev pub chunk_length : Bool → ℕ → ℕ
chunk_length i n = padded (chunk_header i + n)

-- The chunk: its three marks and no other flag, the reserved bits 0, zeros behind the payload.
unfoldable pub model_chunk_bytes : Bool → ChunkFields → List ℕ → List ℕ
model_chunk_bytes i c payload = chunk_layout i (chunk_flags c) 0 c payload (replicate (padding (chunk_header i + length payload)) 0)
