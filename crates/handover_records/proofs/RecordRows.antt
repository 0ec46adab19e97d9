-- The records of an image, number by number, and their widths. Assumes nothing.
use mathlib.Core.Path.{◌≡◌, refl, ap}
use mathlib.Core.List.{List}
use Prim.Native.Nat.{ℕ}
use lib.ListN.{take, drop}
use Rattle.queue_model.specs.Bytes.{width}
use Rattle.queue_model.specs.Image.{stream_widths, message_widths, trailer_widths}
use Rattle.big_endian.proofs.Rows.{numbers_at, row_at_lem}
use Rattle.handover_records.specs.Records.{stream_at_words, stream_of, message_at, message_of_words, trailer_at, trailer_of}

-- ------------------------------------------------------------------ reading

pub stream_read : (bs : List ℕ) (at : ℕ) → stream_at_words bs at ≡ stream_of (numbers_at bs at 0 stream_widths)
unfolding stream_at_words
stream_read bs at = ap stream_of (row_at_lem bs at stream_widths)

pub message_read : (bs : List ℕ) (at : ℕ) → message_at bs at ≡ message_of_words (numbers_at bs at 0 message_widths)
unfolding message_at
message_read bs at = ap message_of_words (row_at_lem bs at message_widths)

pub trailer_read : (bs : List ℕ) (at : ℕ) → trailer_at bs at ≡ trailer_of (numbers_at bs at 0 trailer_widths)
unfolding trailer_at
trailer_read bs at = ap trailer_of (row_at_lem bs at trailer_widths)

-- ------------------------------------------------------------------ the widths

pub stream_width : width stream_widths ≡ 14
unfolding width
stream_width = refl

pub message_width : width message_widths ≡ 44
unfolding width
message_width = refl

pub start_width : width (take 7 message_widths) ≡ 16
unfolding width
start_width = refl

pub end_width : width (drop 7 message_widths) ≡ 28
unfolding width
end_width = refl

pub trailer_width : width trailer_widths ≡ 20
unfolding width
trailer_width = refl
