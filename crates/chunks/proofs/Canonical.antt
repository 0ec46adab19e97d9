-- A chunk without what the reader ignores is what the writer writes. Assumes nothing.
use mathlib.Core.Path.{◌≡◌, sym, ap, ◌∙◌}
use mathlib.Core.List.{List, ◌++◌, append_assoc}
use Prim.Native.Nat.{ℕ, ◌+◌, ◌/◌, ◌%◌, ◌<◌}
use native.Mathlib.Omega.{arith}
use lib.ListN.{length, get_or, set, take, replicate, length-append, length-set, get_or-append}
use lib.Seq.{set-append_left, take_at}
use Rattle.queue_model.specs.Bytes.{number_bytes, row_bytes}
use Rattle.queue_sending.specs.declared.data.Data.{Data}
use Rattle.chunks.specs.declared.chunk.ChunkKind.{ChunkKind}
use Rattle.chunks.specs.declared.chunk.ChunkKind.TheVariants as kind
use Rattle.queue_model.specs.Chunks.{padding, chunk_layout, model_chunk_bytes}
use Rattle.chunks.specs.Layout.{header_size, header_widths, header_row, flags_of, chunk_bytes}
use Rattle.chunks.specs.Promise.{LaidOut, cleared, canonical}
use Rattle.chunks.proofs.WriteCases.{header_length}

flag_byte : (flags g : ℕ) → flags < 256 → flags % 8 ≡ g → flags / 1 % 256 % 8 ≡ g / 1 % 256
flag_byte flags g h e = omega (arith, h, e)

abbrev header : ChunkKind → ℕ → ℕ → ℕ → Data → ℕ → List ℕ
header k flags reserved tsn d len = row_bytes (header_widths k) (header_row k flags reserved tsn d len)

header_cleared : (k : ChunkKind) (flags reserved tsn : ℕ) (d : Data) (len : ℕ) → flags < 256 → flags % 8 ≡ flags_of d → cleared k (header k flags reserved tsn d len) ≡ header k (flags_of d) 0 tsn d len
unfolding row_bytes number_bytes
header_cleared kind.Data flags reserved tsn d len h e = ap (λ (x : ℕ). set (header kind.Data flags reserved tsn d len) 1 x) (flag_byte flags (flags_of d) h e)
header_cleared kind.IData flags reserved tsn d len h e = ap (λ (x : ℕ). set (set (set (header kind.IData flags reserved tsn d len) 1 x) 10 0) 11 0) (flag_byte flags (flags_of d) h e)

-- what is cleared stands in the header
cleared_front : (k : ChunkKind) (xs ys : List ℕ) → length xs ≡ header_size k → cleared k (xs ++ ys) ≡ cleared k xs ++ ys
cleared_front kind.Data xs ys l =
    ap (λ (x : ℕ). set (xs ++ ys) 1 (x % 8)) (get_or-append xs ys 0 1 (omega (arith, l))) ∙ set-append_left xs ys 1 (get_or xs 1 0 % 8) (omega (arith, l))
cleared_front kind.IData xs ys l =
    let a : List ℕ = set xs 1 (get_or xs 1 0 % 8) in
    let la : length a ≡ 20 = length-set xs 1 (get_or xs 1 0 % 8) ∙ l in
    let lb : length (set a 10 0) ≡ 20 = length-set a 10 0 ∙ la in
    ap (λ (x : ℕ). set (set (set (xs ++ ys) 1 (x % 8)) 10 0) 11 0) (get_or-append xs ys 0 1 (omega (arith, l)))
    ∙ ap (λ (z : List ℕ). set (set z 10 0) 11 0) (set-append_left xs ys 1 (get_or xs 1 0 % 8) (omega (arith, l)))
    ∙ ap (λ (z : List ℕ). set z 11 0) (set-append_left a ys 10 0 (omega (arith, la)))
    ∙ set-append_left (set a 10 0) ys 11 0 (omega (arith, lb))

pub laid_canonical : (bs : List ℕ) (k : ChunkKind) (tsn : ℕ) (d : Data) (p : List ℕ) → LaidOut bs k tsn d p → chunk_bytes k tsn d p ≡ canonical k bs (header_size k + length p)
unfolding canonical model_chunk_bytes chunk_layout
laid_canonical bs k tsn d p c =
    let n : ℕ = header_size k + length p in
    let xs : List ℕ = header k c.flags c.reserved tsn d n in
    let ys : List ℕ = header k (flags_of d) 0 tsn d n in
    let zs : List ℕ = replicate (padding n) 0 in
    let ly : length (ys ++ p) ≡ n = length-append ys p ∙ ap (λ (j : ℕ). j + length p) (header_length k (flags_of d) 0 tsn d n) in
    let e : cleared k bs ≡ (ys ++ p) ++ c.pad =
    ap (cleared k) c.bytes
    ∙ cleared_front k xs (p ++ c.pad) (header_length k c.flags c.reserved tsn d n)
    ∙ ap (λ (z : List ℕ). z ++ (p ++ c.pad)) (header_cleared k c.flags c.reserved tsn d n c.flags_fit c.marks)
    ∙ sym (append_assoc ys p c.pad) in
    sym (append_assoc ys p zs) ∙ ap (λ (z : List ℕ). z ++ zs) (sym (ap (take n) e ∙ take_at (ys ++ p) c.pad n ly))
