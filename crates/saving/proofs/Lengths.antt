-- The lengths of records, and a copied payload. Assumes nothing.
use mathlib.Core.Path.{◌≡◌, refl, sym, ap, ◌∙◌}
use mathlib.Core.Bool.{true, false}
use mathlib.Core.List.{List, [], ◌∷◌, ◌++◌, append-nil}
use Prim.Native.Nat.{ℕ, ◌+◌, ◌-◌, ◌≤◌}
use native.Mathlib.Omega.{arith}
use lib.ListN.{length, take, drop, length-append, length-drop, drop_of_length-le}
use lib.Seq.{length-take-le}
use Rattle.queue_model.specs.Bytes.{row_bytes}
use Rattle.queue_model.specs.Image.{stream_widths, message_widths, trailer_widths}
use Rattle.queue_words.specs.Header.{options_at}
use Rattle.queue_words.specs.Items.{item_at}
use Rattle.queue_words.specs.Known.{id_at}
use Rattle.queue_words.specs.Streams.{stream_at_words}
use Rattle.queue_state.specs.Chains.{sum_of}
use Rattle.queue_state.specs.Model.{row_at}
use Rattle.payload_store.specs.Good.{payload_of}
use Rattle.payload_store.proofs.Parts.{part_in}
use Rattle.big_endian.specs.Numbers.{wrote}
use Rattle.handover_records.specs.Records.{stream_row_words, message_row_words, trailer_row}
use Rattle.big_endian.proofs.Rows.{row_length}
use Rattle.handover_records.proofs.RecordRows.{stream_width, message_width, trailer_width}
use Rattle.saving.specs.declared.measuring.Tally.{Tally}
use Rattle.saving.specs.Measure.{is_plain}
use Rattle.saving.specs.Records.{stream_record_words, message_record_words, trailer_of}
use Rattle.saving.specs.Sound.{ItemOk, AllOk}
use Rattle.saving.specs.Bytes.{stream_bytes_words, item_bytes, chain_bytes, trailer_bytes}
use Rattle.saving.proofs.Passing.{size_at}

pub payload_long : (ws st : List ℕ) (x : ℕ) → ItemOk (item_at ws x) (length st) → length (payload_of ws st x) ≡ (item_at ws x).length
unfolding payload_of
payload_long ws st x k = length-take-le (item_at ws x).length (drop (item_at ws x).place st) (rw length-drop (omega (arith, k.inside)))

pub item_long : (ws st : List ℕ) (time id x : ℕ) → ItemOk (item_at ws x) (length st) → length (item_bytes ws st time id x) ≡ size_at ws x
unfolding item_bytes
item_long ws st time id x k =
    length-append (row_bytes message_widths (message_row_words (message_record_words (item_at ws x) id time))) (payload_of ws st x)
    ∙ rw (row_length message_widths (message_row_words (message_record_words (item_at ws x) id time)) refl, message_width, payload_long ws st x k)

pub chain_long : (ws st : List ℕ) (time id : ℕ) (ps : List ℕ) → AllOk ws (length st) ps → length (chain_bytes ws st time id ps) ≡ sum_of (size_at ws) ps
unfolding chain_bytes
chain_long ws st time id [] k = refl
chain_long ws st time id (x ∷ xs) k = length-append (item_bytes ws st time id x) (chain_bytes ws st time id xs) ∙ rw (item_long ws st time id x k.0, chain_long ws st time id xs k.1)

pub plain_long : (ws : List ℕ) (i : ℕ) → is_plain (stream_at_words ws (row_at ws i)) (options_at ws).default_priority ≡ true → stream_bytes_words ws i ≡ []
unfolding stream_bytes_words
plain_long ws i e = rw e

pub stream_is : (ws : List ℕ) (i : ℕ) → is_plain (stream_at_words ws (row_at ws i)) (options_at ws).default_priority ≡ false
    → stream_bytes_words ws i ≡ row_bytes stream_widths (stream_row_words (stream_record_words (id_at ws i) (stream_at_words ws (row_at ws i))))
unfolding stream_bytes_words
stream_is ws i e = rw e

pub stream_long : (ws : List ℕ) (i : ℕ) → is_plain (stream_at_words ws (row_at ws i)) (options_at ws).default_priority ≡ false → length (stream_bytes_words ws i) ≡ 14
stream_long ws i e = rw (stream_is ws i e) (row_length stream_widths (stream_row_words (stream_record_words (id_at ws i) (stream_at_words ws (row_at ws i)))) refl ∙ stream_width)

pub trailer_long : (ws : List ℕ) (t : Tally) → length (trailer_bytes ws t) ≡ 20
unfolding trailer_bytes
trailer_long ws t = row_length trailer_widths (trailer_row (trailer_of ws t)) refl ∙ trailer_width

-- a part of the store copied into the middle of the buffer
pub part_between : (b st src l : List ℕ) (at from n : ℕ) → at + n ≤ length b → from + n ≤ length st → src ≡ take (from + n - from) (drop from st)
    → l ≡ src → take at b ++ (l ++ drop (at + n - at) (drop at b)) ≡ wrote b at (take n (drop from st))
unfolding wrote
part_between b st src l at from n h k es e =
    let m : from + n - from ≡ n = omega arith in
    let s : src ≡ take n (drop from st) = es ∙ ap (λ (j : ℕ). take j (drop from st)) m in
    let ls : length src ≡ n = ap length s ∙ length-take-le n (drop from st) (rw length-drop (omega (arith, k))) in
    let lt : length (take n (drop from st)) ≡ n = length-take-le n (drop from st) (rw length-drop (omega (arith, k))) in
    let m' : at + n - at ≡ n = omega arith in
    let k' : length (take n (drop at b)) ≤ length src = omega (arith, ls, length-take-le n (drop at b) (rw length-drop (omega (arith, h)))) in
    part_in b src l at n (sym ls) h (e ∙ sym (rw (m', drop_of_length-le (take n (drop at b)) k', append-nil)))
    ∙ rw (lt, s)
