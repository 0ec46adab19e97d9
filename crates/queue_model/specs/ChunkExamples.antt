-- Three chunks by their bytes (document 02, 1/13), by computation: "fragments become chunks". Numbers have their high byte first (RFC 9260, 3). Assumes
-- nothing.
use Rattle.std.specs.Prelude.{Bool, true, false, [], ◌∷◌, ◌≡◌, refl}
use Rattle.queue_model.specs.Bytes.{row_bytes}
use Rattle.queue_model.specs.Chunks.{ChunkFields, padding, chunk_layout, model_chunk_bytes}

-- TSN 65,536 + 2, stream 258, SSN 3, MID 4, FSN 5, protocol id 53.
fields : Bool → Bool → Bool → ChunkFields
fields unordered first last = record { tsn = 65538; stream_id = 258; unordered = unordered; ssn = 3; mid = 4; fsn = 5; ppid = 53; first = first; last = last }

-- DATA, first and last, of four bytes: nothing pads.
data_chunk : model_chunk_bytes false (fields false true true) (9 ∷ 8 ∷ 7 ∷ 6 ∷ []) ≡ 0 ∷ 3 ∷ 0 ∷ 20 ∷ 0 ∷ 1 ∷ 0 ∷ 2 ∷ 1 ∷ 2 ∷ 0 ∷ 3 ∷ 0 ∷ 0 ∷ 0 ∷ 53 ∷ 9 ∷ 8 ∷ 7 ∷ 6 ∷ []
unfolding model_chunk_bytes chunk_layout padding row_bytes fields
data_chunk = refl

-- I-DATA, first and not last, unordered, of one byte: the protocol id, and three zeros that the length does not count.
first_i_data : model_chunk_bytes true (fields true true false) (9 ∷ []) ≡ 64 ∷ 6 ∷ 0 ∷ 21 ∷ 0 ∷ 1 ∷ 0 ∷ 2 ∷ 1 ∷ 2 ∷ 0 ∷ 0 ∷ 0 ∷ 0 ∷ 0 ∷ 4 ∷ 0 ∷ 0 ∷ 0 ∷ 53 ∷ 9 ∷ 0 ∷ 0 ∷ 0 ∷ []
unfolding model_chunk_bytes chunk_layout padding row_bytes fields
first_i_data = refl

-- I-DATA, last and not first, of three bytes: the FSN, and one zero.
later_i_data : model_chunk_bytes true (fields false false true) (9 ∷ 8 ∷ 7 ∷ []) ≡ 64 ∷ 1 ∷ 0 ∷ 23 ∷ 0 ∷ 1 ∷ 0 ∷ 2 ∷ 1 ∷ 2 ∷ 0 ∷ 0 ∷ 0 ∷ 0 ∷ 0 ∷ 4 ∷ 0 ∷ 0 ∷ 0 ∷ 5 ∷ 9 ∷ 8 ∷ 7 ∷ 0 ∷ []
unfolding model_chunk_bytes chunk_layout padding row_bytes fields
later_i_data = refl
