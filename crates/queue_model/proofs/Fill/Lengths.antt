-- The lengths of chunks and packets: a filling's packet is within its limit. Assumes nothing.
use mathlib.Core.Path.{◌≡◌, refl, sym, ap, ap₂, ◌∙◌}
use mathlib.Core.Bool.{Bool, true, false}
use mathlib.Core.List.{List, [], ◌∷◌, ◌++◌}
use Prim.Native.Nat.{ℕ, suc, ◌+◌, ◌≤◌}
use native.Mathlib.Omega.{arith}
use native.Mathlib.Nat.{mod-eq_of_lt}
use lib.ListN.{length, take, drop, length-append, length-replicate, replicate}
use lib.Seq.{take_at, drop_at}
use Rattle.types.specs.Wrap.{wrap_suc}
use Rattle.queue_model.specs.Types.{Packet, Fragment, Queue}
use Rattle.queue_model.specs.Bytes.{row_bytes, number_bytes, bytes_number, width}
use Rattle.queue_model.specs.Chunks.{ChunkFields, chunk_header, padding, padded, chunk_length, chunk_widths, chunk_flags, chunk_row, chunk_layout, model_chunk_bytes}
use Rattle.queue_model.specs.Fill.{size_asked, common_header_length, common_header_widths, common_header_row, common_header, chunk_fields, fragment_chunk, chunks, packet_bytes}
use Rattle.queue_model.specs.Packets.{length_field, cut_chunks, each_chunk}
use Rattle.queue_model.proofs.Image.ByteRows.{length_number_bytes, read_written}

-- A row of as many numbers as widths takes the widths' bytes.
length_row : (ws ns : List ℕ) → length ws ≡ length ns → length (row_bytes ws ns) ≡ width ws
unfolding row_bytes width
length_row [] ns e = refl
length_row (w ∷ ws) [] e = absurd (omega arith)
length_row (w ∷ ws) (n ∷ ns) e = let a = length-append (number_bytes w n) (row_bytes ws ns) in let b = length_number_bytes w n in let c = length_row ws ns (omega arith) in omega arith

length_fields : (idata : Bool) (c : ChunkFields) (flags n : ℕ) → length (row_bytes (chunk_widths idata) (chunk_row idata flags 0 c n)) ≡ chunk_header idata
unfolding width
length_fields false c flags n = length_row (chunk_widths false) (chunk_row false flags 0 c n) refl
length_fields true c flags n = length_row (chunk_widths true) (chunk_row true flags 0 c n) refl

pub length_chunk : (idata : Bool) (c : ChunkFields) (payload : List ℕ) → length (model_chunk_bytes idata c payload) ≡ chunk_length idata (length payload)
unfolding model_chunk_bytes chunk_layout
length_chunk idata c payload =
    let m : ℕ = padding (chunk_header idata + length payload) in let z : List ℕ = replicate m 0 in
    let a = length-append (row_bytes (chunk_widths idata) (chunk_row idata (chunk_flags c) 0 c (chunk_header idata + length payload))) (payload ++ z) in let b = length-append payload z in
    let c = length_fields idata c (chunk_flags c) (chunk_header idata + length payload) in let d : length z ≡ m = length-replicate m 0 in omega arith

-- The bytes of the chunks of fragments.
abbrev pub chunks_length : Bool → List Fragment → ℕ
chunks_length idata [] = 0
chunks_length idata (f ∷ fs) = chunk_length idata (length f.bytes) + chunks_length idata fs

length_chunks : (idata : Bool) (tsn : ℕ) (fs : List Fragment) → length (chunks idata tsn fs) ≡ chunks_length idata fs
unfolding chunks
length_chunks idata tsn [] = refl
length_chunks idata tsn (f ∷ fs) =
    let a = length-append (fragment_chunk idata tsn f) (chunks idata (wrap_suc 32 tsn) fs) in let b = length_chunk idata (chunk_fields tsn f) f.bytes in let c = length_chunks idata (wrap_suc 32 tsn) fs in omega arith

-- "the 12-byte common header".
pub length_header : (p : Packet) → length (common_header p) ≡ common_header_length
unfolding common_header width
length_header p = length_row common_header_widths (common_header_row p) refl

-- A packet is at most its header and its chunks.
pub length_packet : (idata : Bool) (p : Packet) (fs : List Fragment) → length (packet_bytes idata p fs) ≤ common_header_length + chunks_length idata fs
unfolding packet_bytes
length_packet idata p [] = omega arith
length_packet idata p (f ∷ fs) = let a = length-append (common_header p) (chunks idata p.tsn (f ∷ fs)) in let b = length_header p in let c = length_chunks idata p.tsn (f ∷ fs) in omega arith

-- A chunk of at most the size asked for is within the limit.
pub chunk_within : (idata : Bool) (limit used n : ℕ) (q : Queue) (f : Fragment) → size_asked idata limit used q ≡ suc n → length f.bytes ≤ suc n → used + chunk_length idata (length f.bytes) ≤ limit
unfolding size_asked padding
chunk_within false limit used n q f e l = omega arith
chunk_within true limit used n q f e l = omega arith

-- ---- a packet read back, chunk by chunk

-- The length field of a chunk, whatever follows the chunk.
field_length : (idata : Bool) (c : ChunkFields) (payload rest : List ℕ) → take 2 (drop 2 (model_chunk_bytes idata c payload ++ rest)) ≡ number_bytes 2 (chunk_header idata + length payload)
unfolding model_chunk_bytes chunk_layout row_bytes number_bytes
field_length false c payload rest = refl
field_length true c payload rest = refl

-- The length with padding that is read at a chunk is the chunk's.
length_read : (idata : Bool) (c : ChunkFields) (payload rest : List ℕ) → chunk_header idata + length payload ≤ 65535 → padded (length_field (model_chunk_bytes idata c payload ++ rest)) ≡ length (model_chunk_bytes idata c payload)
unfolding length_field
length_read idata c payload rest h =
    let n : ℕ = chunk_header idata + length payload in
    let e : bytes_number (take 2 (drop 2 (model_chunk_bytes idata c payload ++ rest))) ≡ n = ap bytes_number (field_length idata c payload rest) ∙ read_written 2 n ∙ mod-eq_of_lt (omega arith) in
    ap padded e ∙ sym (length_chunk idata c payload)

-- Each chunk's length without padding fits its 16 bits.
abbrev pub Short : Bool → List Fragment → Type 0
Short idata [] = Unit {0}
Short idata (f ∷ fs) = (chunk_header idata + length f.bytes ≤ 65535) × Short idata fs

cut_back : (idata : Bool) (tsn : ℕ) (fs : List Fragment) → Short idata fs → cut_chunks (length fs) (chunks idata tsn fs) ≡ each_chunk idata tsn fs
unfolding chunks cut_chunks each_chunk
cut_back idata tsn [] h = refl
cut_back idata tsn (f ∷ fs) h =
    let c : List ℕ = fragment_chunk idata tsn f in let rest : List ℕ = chunks idata (wrap_suc 32 tsn) fs in
    let e : padded (length_field (c ++ rest)) ≡ length c = length_read idata (chunk_fields tsn f) f.bytes rest h.0 in
    ap₂ ◌∷◌ (take_at c rest (padded (length_field (c ++ rest))) (sym e)) (ap (cut_chunks (length fs)) (drop_at c rest (padded (length_field (c ++ rest))) (sym e)) ∙ cut_back idata (wrap_suc 32 tsn) fs h.1)

-- A packet, behind its common header, is its fragments' chunks.
pub packet_back_lem : (idata : Bool) (p : Packet) (fs : List Fragment) → Short idata fs → cut_chunks (length fs) (drop common_header_length (packet_bytes idata p fs)) ≡ each_chunk idata p.tsn fs
unfolding packet_bytes
packet_back_lem idata p [] h = cut_back idata p.tsn [] h
packet_back_lem idata p (f ∷ fs) h =
    ap (cut_chunks (length (f ∷ fs))) (drop_at (common_header p) (chunks idata p.tsn (f ∷ fs)) common_header_length (length_header p)) ∙ cut_back idata p.tsn (f ∷ fs) h
