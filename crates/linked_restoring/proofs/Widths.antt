-- The numbers of a record that lies inside an image of bytes have their widths. Assumes nothing.
use mathlib.Core.List.{List}
use Prim.Native.Nat.{ℕ, ◌+◌, ◌≤◌}
use native.Mathlib.Omega.{arith}
use lib.Dec.{T}
use lib.Pow.{are_bytes}
use lib.ListN.{length, drop, length-drop}
use Rattle.queue_model.specs.Bytes.{Fits, bytes_row, width}
use Rattle.queue_model.specs.Image.{stream_widths, message_widths, trailer_widths}
use Rattle.queue_model.proofs.Image.ByteRows.{drop_bytes, row_fits}
use Rattle.handover_records.specs.Records.{stream_at_words, stream_row_words, message_at, message_row_words, trailer_at, trailer_row}

pub stream_fits : (bs : List ℕ) (at : ℕ) → T (are_bytes bs) → at + 14 ≤ length bs → Fits stream_widths (stream_row_words (stream_at_words bs at))
unfolding stream_at_words bytes_row width
stream_fits bs at b h = row_fits stream_widths (drop at bs) (drop_bytes at bs b) (rw length-drop (omega arith))

pub message_fits : (bs : List ℕ) (at : ℕ) → T (are_bytes bs) → at + 44 ≤ length bs → Fits message_widths (message_row_words (message_at bs at))
unfolding message_at bytes_row width
message_fits bs at b h = row_fits message_widths (drop at bs) (drop_bytes at bs b) (rw length-drop (omega arith))

pub trailer_fits : (bs : List ℕ) (at : ℕ) → T (are_bytes bs) → at + 20 ≤ length bs → Fits trailer_widths (trailer_row (trailer_at bs at))
unfolding trailer_at bytes_row width
trailer_fits bs at b h = row_fits trailer_widths (drop at bs) (drop_bytes at bs b) (rw length-drop (omega arith))
