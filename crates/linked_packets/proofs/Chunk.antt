-- The chunk that a filling writes is the model's. Assumes nothing.
use mathlib.Core.Path.{◌≡◌, refl, ap, ◌∙◌}
use mathlib.Core.Bool.{Bool, true, false}
use mathlib.Core.List.{List, ◌++◌}
use Prim.Native.Nat.{ℕ, ◌+◌, ◌≤◌}
use native.Mathlib.Omega.{arith}
use lib.ListN.{length, take, drop}
use Rattle.queue_model.specs.Types.{Fragment}
use Rattle.types.specs.Keys.{key_of, key_id, key_unordered}
use Rattle.queue_model.specs.Chunks.{ChunkFields, padded, chunk_header, chunk_length, model_chunk_bytes}
use Rattle.queue_model.specs.Fill.{chunk_fields, fragment_chunk}
use Rattle.big_endian.specs.Numbers.{wrote}
use Rattle.chunks.specs.Layout.{is_iData, fields_of, header_size, chunk_bytes}
use Rattle.packets.specs.Filling.{kind_of, chunk_around}
use Rattle.packets.proofs.Places.{wrote_front, chunk_whole}
use Rattle.linked_sending.specs.Meaning.{data_of}

pub kind_is : (b : Bool) → is_iData (kind_of b) ≡ b
kind_is true = refl
kind_is false = refl

pub header_is : (b : Bool) → header_size (kind_of b) ≡ chunk_header b
header_is b = ap chunk_header (kind_is b)

-- what a chunk carries of the model's fragment
fields_same : (tsn : ℕ) (f : Fragment) → fields_of tsn (data_of f).«data» ≡ chunk_fields tsn f
fields_same tsn f = go f.unordered
  where
    fields : ℕ → Bool → ChunkFields
    fields id u = record { tsn = tsn; stream_id = id; unordered = u; ssn = f.ssn; mid = f.mid; fsn = f.fsn; ppid = f.ppid; first = f.first; last = f.last }

    go : (u : Bool) → fields (key_id (key_of u (record { 0 = f.stream_id }))).0 (key_unordered (key_of u (record { 0 = f.stream_id }))) ≡ fields f.stream_id u
    go true = refl
    go false = refl

pub chunk_same : (b : Bool) (tsn : ℕ) (f : Fragment) → chunk_bytes (kind_of b) tsn (data_of f).«data» f.bytes ≡ fragment_chunk b tsn f
chunk_same b tsn f = ap (λ (i : Bool). model_chunk_bytes i (fields_of tsn (data_of f).«data») f.bytes) (kind_is b) ∙ ap (λ (c : ChunkFields). model_chunk_bytes b c f.bytes) (fields_same tsn f)

-- A fragment read to its place, then its chunk around it: the model's chunk.
pub placed_chunk : (b : Bool) (tsn : ℕ) (f : Fragment) (bs : List ℕ) (at n : ℕ) → length f.bytes ≤ n → at + chunk_header b + n ≤ length bs → at + chunk_length b (length f.bytes) ≤ length bs
    → chunk_around (kind_of b) tsn (data_of f).«data» (wrote bs (at + header_size (kind_of b)) (f.bytes ++ drop (length f.bytes) (take n (drop (at + header_size (kind_of b)) bs)))) at
    ≡ wrote bs at (fragment_chunk b tsn f)
placed_chunk b tsn f bs at n h k l =
    let e = header_is b in
    ap (λ (x : List ℕ). chunk_around (kind_of b) tsn (data_of f).«data» x at) (wrote_front bs f.bytes (at + header_size (kind_of b)) n h (omega (arith, e, k)))
    ∙ chunk_whole (kind_of b) tsn (data_of f).«data» bs f.bytes at refl (let g : padded (header_size (kind_of b) + length f.bytes) ≡ padded (chunk_header b + length f.bytes) = ap (λ (m : ℕ). padded (m + length f.bytes)) e in omega (arith, g, l))
    ∙ ap (wrote bs at) (chunk_same b tsn f)
