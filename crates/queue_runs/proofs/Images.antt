-- An image that is too long is no image. Assumes nothing.
use mathlib.Core.Path.{◌≡◌, refl, ◌∙◌}
use mathlib.Core.Bool.{Bool, true, false, ◌&&◌}
use mathlib.Core.List.{List, []}
use mathlib.Core.Option.{none}
use Prim.Native.Nat.{ℕ, ◌+◌, ◌-◌, ◌*◌, ◌^◌, ◌≤◌, ◌<◌}
use native.Mathlib.Omega.{arith}
use borrow.Author.Tests.{le-leb, ne_eqb}
use lib.Dec.{T, eqb}
use lib.ListN.{length, drop, length-drop}
use lib.Pow.{are_bytes}
use Rattle.queue_model.specs.Logic.{only_if}
use Rattle.queue_model.specs.Bytes.{bytes_row, width, Fits}
use Rattle.queue_model.specs.Image.{trailer_widths}
use Rattle.queue_model.specs.Reader.{trailer_right, read_parts, read_image, stream_count_in, form_in, streams_size_in, messages_size_in}
use Rattle.queue_model.proofs.Image.ByteRows.{row_fits, drop_bytes}

-- The trailer's row.
abbrev row : List ℕ → List ℕ
row bs = bytes_row trailer_widths (drop (length bs - 20) bs)

-- Sizes have four bytes.
sizes_fit : (bs : List ℕ) → T (are_bytes bs) → 20 ≤ length bs → (streams_size_in (row bs) < 256 ^ 4) × (messages_size_in (row bs) < 256 ^ 4)
unfolding bytes_row width
sizes_fit bs b h =
    let l = length-drop (length bs - 20) bs in
    let f : Fits trailer_widths (row bs) = row_fits trailer_widths (drop (length bs - 20) bs) (drop_bytes (length bs - 20) bs b) (omega arith) in
    (f.1.1.1.1.1.1.0, f.1.1.1.1.1.0)

and_false : (a b c : Bool) → b ≡ false → (a && b && c) ≡ false
and_false true true c e = let z : ◌≡◌ {A = ℕ} 0 1 = cc in absurd (omega arith)
and_false true false c e = refl
and_false false b c e = refl

trailer_wrong : (bs t : List ℕ) → streams_size_in t + messages_size_in t + 20 < length bs → trailer_right t bs ≡ false
unfolding trailer_right
trailer_wrong bs t h = and_false (eqb (form_in t) 1) (eqb (streams_size_in t + messages_size_in t + 20) (length bs)) (eqb (streams_size_in t) (14 * stream_count_in t)) (ne_eqb (streams_size_in t + messages_size_in t + 20) (length bs) (λ e. omega arith))

parts_none : (bs t : List ℕ) → trailer_right t bs ≡ false → read_parts t bs ≡ none
unfolding read_parts only_if
parts_none bs t e = rw e

read_of : (bs : List ℕ) → 20 ≤ length bs → read_image bs ≡ read_parts (row bs) bs
unfolding read_image only_if
read_of bs h = rw (le-leb 20 (length bs) h)

-- "All must agree and fill the image."
pub read_long : (bs : List ℕ) → T (are_bytes bs) → 2 ^ 64 ≤ length bs → read_image bs ≡ none
read_long bs b h = let f = sizes_fit bs b (omega arith) in let x = f.0 in let y = f.1 in read_of bs (omega arith) ∙ parts_none bs (row bs) (trailer_wrong bs (row bs) (omega arith))

pub read_nil : read_image [] ≡ none
unfolding read_image only_if
read_nil = refl
