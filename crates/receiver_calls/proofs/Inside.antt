-- The payload of a chunk read lies within the bytes. Assumes nothing.
use mathlib.Core.Path.{◌≡◌, sym, ap, ◌∙◌, subst}
use mathlib.Core.Bool.{Bool, true, false}
use mathlib.Core.List.{List}
use Prim.Native.Nat.{ℕ, ◌+◌, ◌≤◌, ◌<◌}
use native.Mathlib.Omega.{arith}
use lib.Dec.{eqb, ltb}
use lib.ListN.{length}
use borrow.Author.Tests.{ltb-true, eqb-true}
use Rattle.std.specs.Prelude.{if◌then◌else◌}
use Rattle.queue_model.specs.Chunks.{chunk_type, padded}
use Rattle.big_endian.specs.Numbers.{number_at}
use Rattle.receiver_model.proofs.Lists.{Value, yes_is, no_is, value}
use Rattle.chunks.specs.declared.chunk.Chunk.{Chunk}
use Rattle.chunks.specs.declared.chunk.ChunkKind.{ChunkKind}
use Rattle.chunks.specs.declared.chunk.ChunkKind.TheVariants as kind
use Rattle.chunks.specs.ChunkRead.{ChunkRead}
use Rattle.chunks.specs.ChunkRead.{Read, Refused}
use Rattle.chunks.specs.Layout.{header_size}
use Rattle.chunks.specs.Reading.{chunk_at, read_as, read_typed, read_chunk}

-- the payload begins and ends within n bytes
abbrev pub Inside : Chunk → ℕ → Type 0
Inside c n = c.payload_at + c.fragment.«data».length ≤ n

refused_is : (c : Chunk) (n : ℕ) → Read c ≡ Refused n → ⊥
refused_is c n e = let z : ◌≡◌ {A = ℕ} 0 1 = cc in omega arith

read_is : (c d : Chunk) → Read c ≡ Read d → c ≡ d
read_is c d e = cc

size : (k : ChunkKind) (bs : List ℕ) (len : ℕ) → header_size k < len → padded len ≡ length bs → Inside (chunk_at k bs len) (length bs)
unfolding chunk_at
size kind.Data bs len h e = omega arith
size kind.IData bs len h e = omega arith

as_inside : (k : ChunkKind) (bs : List ℕ) (len : ℕ) (c : Chunk) → padded len ≡ length bs → Read c ≡ read_as k bs len → Inside c (length bs)
as_inside k bs len c e q = go (value (ltb (header_size k) len))
  where
    by : Bool → ChunkRead
    by t = if t then Read (chunk_at k bs len) else Refused 19

    go : Value (ltb (header_size k) len) → Inside c (length bs)
    go (yes_is f) = subst (λ (x : Chunk). Inside x (length bs)) (sym (read_is c (chunk_at k bs len) (q ∙ ap by f))) (size k bs len (ltb-true _ _ f) e)
    go (no_is f) = absurd (refused_is c 19 (q ∙ ap by f))

pub inside : (bs : List ℕ) (c : Chunk) → Read c ≡ read_chunk bs → Inside c (length bs)
unfolding read_chunk
inside bs c q = go (value (eqb (padded len) (length bs)))
  where
    len : ℕ
    len = number_at bs 2 2

    whole : Bool → ChunkRead
    whole t = if t then read_typed (number_at bs 0 1) bs len else Refused 19

    i_data : Bool → ChunkRead
    i_data t = if t then read_as kind.IData bs len else Refused 19

    other : Bool → ChunkRead
    other t = if t then read_as kind.Data bs len else i_data (eqb (number_at bs 0 1) (chunk_type true))

    by_i_data : padded len ≡ length bs → Value (eqb (number_at bs 0 1) (chunk_type true)) → Read c ≡ i_data (eqb (number_at bs 0 1) (chunk_type true)) → Inside c (length bs)
    by_i_data e (yes_is f) p = as_inside kind.IData bs len c e (p ∙ ap i_data f)
    by_i_data e (no_is f) p = absurd (refused_is c 19 (p ∙ ap i_data f))

    by_type : padded len ≡ length bs → Value (eqb (number_at bs 0 1) (chunk_type false)) → Read c ≡ other (eqb (number_at bs 0 1) (chunk_type false)) → Inside c (length bs)
    by_type e (yes_is f) p = as_inside kind.Data bs len c e (p ∙ ap other f)
    by_type e (no_is f) p = by_i_data e (value (eqb (number_at bs 0 1) (chunk_type true))) (p ∙ ap other f)

    go : Value (eqb (padded len) (length bs)) → Inside c (length bs)
    go (yes_is f) = by_type (eqb-true _ _ f) (value (eqb (number_at bs 0 1) (chunk_type false))) (q ∙ ap whole f)
    go (no_is f) = absurd (refused_is c 19 (q ∙ ap whole f))
