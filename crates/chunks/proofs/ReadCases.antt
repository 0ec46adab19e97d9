-- Reading a chunk: the ways out of the calls. Assumes nothing.
use mathlib.Core.Path.{◌≡◌, refl, sym, ap, ◌∙◌}
use mathlib.Core.Bool.{Bool, true, false}
use mathlib.Core.List.{List}
use Prim.Native.Nat.{ℕ, ◌≤◌, ◌<◌}
use native.Mathlib.Omega.{arith}
use borrow.Author.Tests.{lt-ltb, le-ltb, eq-eqb, ne_eqb, eqb-true}
use lib.Dec.{eqb}
use lib.ListN.{length}
use Rattle.std.specs.Prelude.{if◌then◌else◌}
use Rattle.big_endian.specs.Numbers.{number_at}
use Rattle.chunks.specs.declared.chunk.Chunk.{Chunk}
use Rattle.chunks.specs.declared.chunk.ChunkKind.TheVariants as kind
use Rattle.chunks.specs.ChunkRead.{Read, Refused}
use Rattle.queue_model.specs.Chunks.{padded}
use Rattle.chunks.specs.Reading.{chunk_at, read_typed, read_chunk}

pub pick_same : {A : Type 0} (t : Bool) (a b v : A) → a ≡ v → b ≡ v → if◌then◌else◌ t a b ≡ v
pick_same true a b v e f = e
pick_same false a b v e f = f

-- too few bytes for a header
pub typed_short : (type : ℕ) (bs : List ℕ) (len : ℕ) → len ≤ 16 → read_typed type bs len ≡ Refused 19
typed_short type bs len h =
    pick_same (eqb type 0) _ _ _ (rw (le-ltb 16 len h)) (pick_same (eqb type 64) _ _ _ (rw (le-ltb 20 len (omega arith))) refl)

pub short_refused : (bs : List ℕ) → length bs < 16 → Refused 19 ≡ read_chunk bs
unfolding read_chunk
short_refused bs h = go (eqb (padded (number_at bs 2 2)) (length bs)) refl
  where
    go : (t : Bool) → eqb (padded (number_at bs 2 2)) (length bs) ≡ t → Refused 19 ≡ if◌then◌else◌ t (read_typed (number_at bs 0 1) bs (number_at bs 2 2)) (Refused 19)
    go true e = sym (typed_short (number_at bs 0 1) bs (number_at bs 2 2) (omega (arith, eqb-true (padded (number_at bs 2 2)) (length bs) e)))
    go false e = refl

module _ (bs : List ℕ) (len type end : ℕ) (el : len ≡ number_at bs 2 2) (et : type ≡ number_at bs 0 1) (ee : end ≡ padded len) where
  other_length : padded len ≡ padded (number_at bs 2 2)
  other_length = ap padded el

  pub length_refused : (end ≡ length bs → ⊥) → Refused 19 ≡ read_chunk bs
  unfolding read_chunk
  length_refused h = rw (ne_eqb (padded (number_at bs 2 2)) (length bs) (λ z. h (ee ∙ other_length ∙ z)))

  pub typed : end ≡ length bs → read_typed type bs len ≡ read_chunk bs
  unfolding read_chunk
  typed h = rw (eq-eqb (padded (number_at bs 2 2)) (length bs) (sym other_length ∙ sym ee ∙ h), el, et)

  pub data_empty : end ≡ length bs → type ≡ 0 → len ≤ 16 → Refused 19 ≡ read_chunk bs
  data_empty h t q = sym (typed_short type bs len q) ∙ typed h

  pub data_read : end ≡ length bs → type ≡ 0 → 16 < len → (c : Chunk) → c ≡ chunk_at kind.Data bs len → Read c ≡ read_chunk bs
  data_read h t q c e = rw (e) (rw (eq-eqb type 0 t, lt-ltb 16 len q) at (typed h))

  pub i_data_empty : end ≡ length bs → (type ≡ 0 → ⊥) → type ≡ 64 → len ≤ 20 → Refused 19 ≡ read_chunk bs
  i_data_empty h t u q = rw (ne_eqb type 0 t, eq-eqb type 64 u, le-ltb 20 len q) at (typed h)

  pub i_data_read : end ≡ length bs → (type ≡ 0 → ⊥) → type ≡ 64 → 20 < len → (c : Chunk) → c ≡ chunk_at kind.IData bs len → Read c ≡ read_chunk bs
  i_data_read h t u q c e = rw (e) (rw (ne_eqb type 0 t, eq-eqb type 64 u, lt-ltb 20 len q) at (typed h))

  pub type_refused : end ≡ length bs → (type ≡ 0 → ⊥) → (type ≡ 64 → ⊥) → Refused 19 ≡ read_chunk bs
  type_refused h t u = rw (ne_eqb type 0 t, ne_eqb type 64 u) at (typed h)
