-- Writing a chunk: the ways out of the calls. Assumes nothing.
use mathlib.Core.Path.{◌≡◌, refl, ap, ◌∙◌}
use mathlib.Core.List.{List, ◌++◌}
use Prim.Native.Nat.{ℕ, zero, suc, ◌+◌, ◌-◌, ◌≤◌, ◌<◌}
use native.Mathlib.Nat.{zero-add}
use native.Mathlib.Omega.{arith}
use mathlib.Core.Bool.{true, false}
use borrow.Author.Tests.{lt-ltb, le-ltb}
use lib.ListN.{length, take, replicate, length-append, length-replicate}
use Rattle.queue_model.specs.Logic.{outside}
use Rattle.queue_model.specs.Bytes.{row_bytes}
use Rattle.queue_sending.specs.declared.data.Data.{Data}
use Rattle.queue_sending.specs.declared.data.DataToSend.{DataToSend}
use Rattle.big_endian.specs.Numbers.{wrote}
use Rattle.big_endian.proofs.Halves.{wrote_length, wrote_twice}
use Rattle.big_endian.proofs.Rows.{row_length}
use Rattle.chunks.specs.declared.chunk.ChunkKind.{ChunkKind}
use Rattle.chunks.specs.declared.chunk.ChunkKind.TheVariants as kind
use Rattle.chunks.specs.ChunkWritten as answer
use Rattle.queue_model.specs.Chunks.{padding, padded, chunk_layout, model_chunk_bytes}
use Rattle.chunks.specs.Layout.{header_size, header_widths, flags_of, header_row, layout, chunk_bytes}
use Rattle.chunks.specs.Writing.{outcome, max_written, write_chunk}
use Rattle.chunks.proofs.Sizes.{padding_most, header_most, header_width}

-- the zeros are a part of three
zeros_part : (n : ℕ) → n ≤ 3 → take n (replicate {A = ℕ} 3 0) ≡ replicate n 0
zeros_part zero h = refl
zeros_part (suc zero) h = refl
zeros_part (suc (suc zero)) h = refl
zeros_part (suc (suc (suc zero))) h = refl
zeros_part (suc (suc (suc (suc n)))) h = absurd (omega arith)

pub zeros_wrote : (b o : List ℕ) (at n : ℕ) → n ≤ 3 → o ≡ wrote b at (take (n - 0) (replicate 3 0)) → o ≡ wrote b at (replicate n 0)
zeros_wrote b o at n h e =
    let z : n - 0 ≡ n = omega arith in
    e ∙ ap (λ (l : List ℕ). wrote b at l) (ap (λ (j : ℕ). take j (replicate 3 0)) z ∙ zeros_part n h)

pub row_long : (k : ChunkKind) (flags reserved tsn : ℕ) (d : Data) (len : ℕ) → length (header_row k flags reserved tsn d len) ≡ length (header_widths k)
row_long kind.Data flags reserved tsn d len = refl
row_long kind.IData flags reserved tsn d len = refl

pub header_length : (k : ChunkKind) (flags reserved tsn : ℕ) (d : Data) (len : ℕ) → length (row_bytes (header_widths k) (header_row k flags reserved tsn d len)) ≡ header_size k
header_length k flags reserved tsn d len = row_length (header_widths k) (header_row k flags reserved tsn d len) (row_long k flags reserved tsn d len) ∙ header_width k

pub layout_length : (k : ChunkKind) (flags reserved tsn : ℕ) (d : Data) (p pad : List ℕ) → length (layout k flags reserved tsn d p pad) ≡ header_size k + length p + length pad
unfolding chunk_layout
layout_length k flags reserved tsn d p pad =
    let h = header_length k flags reserved tsn d (header_size k + length p) in
    rw (length-append, length-append, h) (omega arith)

pub chunk_length : (k : ChunkKind) (tsn : ℕ) (d : Data) (p : List ℕ) → length (chunk_bytes k tsn d p) ≡ padded (header_size k + length p)
unfolding model_chunk_bytes
chunk_length k tsn d p = layout_length k (flags_of d) 0 tsn d p (replicate (padding (header_size k + length p)) 0) ∙ rw length-replicate

-- put_header
pub data_room : (k : ChunkKind) (n : ℕ) → k ≡ kind.Data → header_size k ≤ n → 16 ≤ n
data_room k n e h = rw e at h

pub i_data_room : (k : ChunkKind) (n : ℕ) → k ≡ kind.IData → header_size k ≤ n → 20 ≤ n
i_data_room k n e h = rw e at h

pub header_of : (k j : ChunkKind) (b o : List ℕ) (tsn : ℕ) (d : Data) (len : ℕ) → k ≡ j → o ≡ wrote b 0 (row_bytes (header_widths j) (header_row j (flags_of d) 0 tsn d len))
    → o ≡ wrote b 0 (row_bytes (header_widths k) (header_row k (flags_of d) 0 tsn d len))
header_of k j b o tsn d len e h = rw e h

-- put_chunk
module _ (k : ChunkKind) (n size : ℕ) (es : size ≡ header_size k) where
  pub len_fits : n ≤ 65515 → size + n ≤ 65535
  len_fits h = omega (arith, es, header_most k)

pub zeros_fit : (k : ChunkKind) (n size end : ℕ) → size ≡ header_size k → end ≡ padded (size + n) → end - (size + n) ≤ 3
zeros_fit k n size end es ee = omega (arith, ee, padding_most (size + n))

pub end_fits : (k : ChunkKind) (n size end room : ℕ) → size ≡ header_size k → end ≡ padded (size + n) → padded (header_size k + n) ≤ room → end ≤ room
end_fits k n size end room es ee h = omega (arith, ee, ap (λ (j : ℕ). padded (j + n)) es)

pub chunk_wrote : (k : ChunkKind) (tsn : ℕ) (d : Data) (b b1 b2 b3 p : List ℕ) (size end : ℕ) → size ≡ header_size k → end ≡ padded (size + length p) → padded (header_size k + length p) ≤ length b
    → b1 ≡ wrote b 0 (row_bytes (header_widths k) (header_row k (flags_of d) 0 tsn d (size + length p))) → b2 ≡ wrote b1 size p → b3 ≡ wrote b2 (size + length p) (replicate (end - (size + length p)) 0)
    → b3 ≡ wrote b 0 (chunk_bytes k tsn d p)
unfolding model_chunk_bytes chunk_layout
chunk_wrote k tsn d b b1 b2 b3 p size end es ee room e1 e2 e3 =
    let n : ℕ = header_size k + length p in
    let xs : List ℕ = row_bytes (header_widths k) (header_row k (flags_of d) 0 tsn d n) in
    let zs : List ℕ = replicate (padding n) 0 in
    let lx : length xs ≡ header_size k = header_length k (flags_of d) 0 tsn d n in
    let lz : length zs ≡ padding n = length-replicate (padding n) 0 in
    let f1 : b1 ≡ wrote b 0 xs = rw es at e1 in
    let f2 : b2 ≡ wrote b1 (header_size k) p = rw es at e2 in
    let q : end - (size + length p) ≡ padding n = omega (arith, ee, ap (λ (j : ℕ). padding (j + length p)) es) in
    let f3 : b3 ≡ wrote b2 (header_size k + length p) zs = rw (q, es) at e3 in
    let l1 : length b1 ≡ length b = ap length f1 ∙ wrote_length b 0 xs (omega (arith, lx)) in
    let t1 : wrote (wrote b1 (header_size k) p) (header_size k + length p) zs ≡ wrote b1 (header_size k) (p ++ zs) = wrote_twice b1 (header_size k) p zs (omega (arith, lz, l1)) in
    let lpz : length (p ++ zs) ≡ length p + padding n = length-append p zs ∙ ap (λ (j : ℕ). length p + j) lz in
    let z : 0 + length xs ≡ header_size k = omega (arith, lx) in
    let t2 : wrote (wrote b 0 xs) (header_size k) (p ++ zs) ≡ wrote b 0 (xs ++ (p ++ zs)) = rw z at (wrote_twice b 0 xs (p ++ zs) (omega (arith, lx, lpz))) in
    f3 ∙ ap (λ (l : List ℕ). wrote l (header_size k + length p) zs) f2 ∙ t1 ∙ ap (λ (l : List ℕ). wrote l (header_size k) (p ++ zs)) f1 ∙ t2

-- write_chunk
-- "empty or above 65,515 bytes"
pub empty_outside : (n : ℕ) → n ≡ 0 → outside 1 max_written n ≡ true
empty_outside n e = rw (lt-ltb n 1 (omega arith))

pub long_outside : (n : ℕ) → 65515 < n → outside 1 max_written n ≡ true
long_outside n h = rw (le-ltb n 1 (omega arith), lt-ltb 65515 n h)

pub nonzero : (n : ℕ) → (n ≡ 0 → ⊥) → 1 ≤ n
nonzero zero f = absurd (f refl)
nonzero (suc n) f = omega arith

pub inside : (n : ℕ) → (n ≡ 0 → ⊥) → n ≤ 65515 → outside 1 max_written n ≡ false
inside n z h = rw (le-ltb n 1 (nonzero n z), le-ltb 65515 n h)

pub short_refused : (k : ChunkKind) (tsn : ℕ) (f : DataToSend) (out p : List ℕ) (size end : ℕ) → size ≡ header_size k → end ≡ padded (size + length p) → (length p ≡ 0 → ⊥) → length p ≤ 65515 → length out < end
    → outcome (answer.Refused 18) out ≡ write_chunk out k tsn f p
unfolding write_chunk
short_refused k tsn f out p size end es ee n0 h s =
    let e : end ≡ padded (header_size k + length p) = ee ∙ ap (λ (j : ℕ). padded (j + length p)) es in
    rw (inside _ n0 h, lt-ltb _ _ (rw e at s))

pub room_for_lem : (k : ChunkKind) (out p : List ℕ) (size end : ℕ) → size ≡ header_size k → end ≡ padded (size + length p) → end ≤ length out → padded (header_size k + length p) ≤ length out
room_for_lem k out p size end es ee h = omega (arith, ee, ap (λ (j : ℕ). padded (j + length p)) es)

pub chunk_written : (k : ChunkKind) (tsn : ℕ) (f : DataToSend) (out o p : List ℕ) (size end : ℕ) → size ≡ header_size k → end ≡ padded (size + length p) → (length p ≡ 0 → ⊥) → length p ≤ 65515 → end ≤ length out
    → o ≡ wrote out 0 (chunk_bytes k tsn f.«data» p) → outcome (answer.Bytes end) o ≡ write_chunk out k tsn f p
unfolding write_chunk wrote
chunk_written k tsn f out o p size end es ee n0 h s eo =
    let e : end ≡ padded (header_size k + length p) = ee ∙ ap (λ (j : ℕ). padded (j + length p)) es in
    let l : 0 + length (chunk_bytes k tsn f.«data» p) ≡ padded (header_size k + length p) = zero-add _ ∙ chunk_length k tsn f.«data» p in
    rw (inside _ n0 h, le-ltb _ _ (rw e at s), e, eo, l)
