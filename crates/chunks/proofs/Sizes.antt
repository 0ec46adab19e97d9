-- The sizes of a chunk. Assumes nothing.
use mathlib.Core.Path.{◌≡◌, refl}
use Prim.Native.Nat.{ℕ, ◌≤◌, ◌%◌}
use native.Mathlib.Omega.{arith}
use Rattle.queue_model.specs.Bytes.{width}
use Rattle.chunks.specs.declared.chunk.ChunkKind.{ChunkKind}
use Rattle.chunks.specs.declared.chunk.ChunkKind.TheVariants as kind
use Rattle.queue_model.specs.Chunks.{padding, padded}
use Rattle.chunks.specs.Layout.{header_size, header_widths}

-- at most 3 zeros
pub padding_most : (n : ℕ) → padding n ≤ 3
unfolding padding
padding_most n = omega arith

-- and no fewer than a multiple of 4 asks for
pub padded_whole : (n : ℕ) → padded n % 4 ≡ 0
unfolding padding
padded_whole n = omega arith

pub header_most : (k : ChunkKind) → header_size k ≤ 20
header_most kind.Data = omega arith
header_most kind.IData = omega arith

pub header_width : (k : ChunkKind) → width (header_widths k) ≡ header_size k
unfolding width
header_width kind.Data = refl
header_width kind.IData = refl
