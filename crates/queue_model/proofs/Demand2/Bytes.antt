-- A saved image consists of bytes, so a reachable queue's image restores as `Restores` has it. Assumes nothing.
use mathlib.Core.Path.{◌≡◌, refl, sym, ap, ◌∙◌, subst}
use mathlib.Core.Bool.{Bool, true, false, ◌&&◌}
use mathlib.Core.List.{List, [], ◌∷◌, ◌++◌, map}
use Prim.Native.Nat.{ℕ, zero, suc, ◌/◌, ◌%◌, ◌^◌, ◌≤◌}
use native.Mathlib.Omega.{arith}
use lib.Dec.{T, ltb, lt→ltb}
use lib.Pow.{are_bytes}
use Rattle.queue_model.specs.Types.{Item, Stream, Options, Queue, done, reply}
use Rattle.queue_model.specs.Refusals.{max_time}
use Rattle.queue_model.specs.Bytes.{number_bytes, row_bytes}
use Rattle.queue_model.specs.Image.{StreamRecord, MessageRecord, Handover, stream_widths, message_widths, trailer_widths, stream_row, message_row, trailer_row, stream_bytes, message_bytes, streams_bytes, messages_bytes, image_bytes, message_record, message_records, handover, write_image}
use Rattle.queue_model.specs.RustHandover.{handover_state, restore_remembering}
use Rattle.queue_model.specs.Demands.{Reachable, Restores, forget_plain, fresh, Demand2Images}
use Rattle.queue_model.proofs.Table.{Every}
use Rattle.queue_model.proofs.Image.ByteRows.{and_intro}
use Rattle.queue_model.proofs.Invariant.Messages.{WellRest, WellItems}
use Rattle.queue_model.proofs.Invariant.Well.{Kept, Well}
use Rattle.queue_model.proofs.Invariant.Accepted.{AllBytes}
use Rattle.queue_model.proofs.Invariant.Sixteen.{reachable_well}
use Rattle.queue_model.proofs.Demand3.Restored.{blank, message_records_cons, message_records_nil}
use Rattle.queue_model.proofs.Demand2.Images.{demand2_images, fresh_blank}
use Rattle.queue_model.specs.Restore

pub append_bytes : (xs ys : List ℕ) → T (are_bytes xs) → T (are_bytes ys) → T (are_bytes (xs ++ ys))
append_bytes [] ys a b = b
append_bytes (x ∷ xs) ys a b = both (ltb x 256) (are_bytes xs) (are_bytes (xs ++ ys)) a (λ t. append_bytes xs ys t b)
  where
    both : (p q r : Bool) → T (p && q) → (T q → T r) → T (p && r)
    both true q r t f = f t
    both false q r t f = t

pub number_are_bytes : (w n : ℕ) → T (are_bytes (number_bytes w n))
unfolding number_bytes
number_are_bytes zero n = tt
number_are_bytes (suc w) n = and_intro (ltb ((n / 256 ^ w) % 256) 256) (are_bytes (number_bytes w n)) (lt→ltb ((n / 256 ^ w) % 256) 256 (omega arith)) (number_are_bytes w n)

row_are_bytes : (ws ns : List ℕ) → T (are_bytes (row_bytes ws ns))
unfolding row_bytes
row_are_bytes [] ns = tt
row_are_bytes (w ∷ ws) [] = tt
row_are_bytes (w ∷ ws) (n ∷ ns) = append_bytes (number_bytes w n) (row_bytes ws ns) (number_are_bytes w n) (row_are_bytes ws ns)

streams_are_bytes : (rs : List StreamRecord) → T (are_bytes (streams_bytes rs))
unfolding streams_bytes stream_bytes
streams_are_bytes [] = tt
streams_are_bytes (r ∷ rs) = append_bytes (row_bytes stream_widths (stream_row r)) (streams_bytes rs) (row_are_bytes stream_widths (stream_row r)) (streams_are_bytes rs)

messages_are_bytes : (rs : List MessageRecord) → AllBytes rs → T (are_bytes (messages_bytes rs))
unfolding messages_bytes message_bytes
messages_are_bytes [] b = tt
messages_are_bytes (r ∷ rs) b =
    append_bytes (row_bytes message_widths (message_row r) ++ r.payload) (messages_bytes rs) (append_bytes (row_bytes message_widths (message_row r)) r.payload (row_are_bytes message_widths (message_row r)) b.0) (messages_are_bytes rs b.1)

-- The messages of well streams have payloads of bytes.
rest_bytes : (saved k : ℕ) (is : List Item) (rs : List MessageRecord) → WellRest is → AllBytes rs → AllBytes (map (message_record saved k) is ++ rs)
unfolding message_record
rest_bytes saved k [] rs w b = b
rest_bytes saved k (i ∷ is) rs w b = (w.0.bytes, rest_bytes saved k is rs w.1.1 b)

items_bytes : (saved k : ℕ) (is : List Item) (rs : List MessageRecord) → WellItems is → AllBytes rs → AllBytes (map (message_record saved k) is ++ rs)
unfolding message_record
items_bytes saved k [] rs w b = b
items_bytes saved k (i ∷ is) rs w b = (w.0.bytes, rest_bytes saved k is rs w.1 b)

records_bytes : (saved : ℕ) (ss : List Stream) → Every Kept ss → AllBytes (message_records saved ss)
records_bytes saved [] k = subst AllBytes (sym (message_records_nil saved)) tt
records_bytes saved (s ∷ ss) k = subst AllBytes (sym (message_records_cons saved s ss)) (items_bytes saved s.id s.items (message_records saved ss) k.0.well_items (records_bytes saved ss k.1))

-- A well queue's image consists of bytes.
pub image_is_bytes : (saved : ℕ) (q : Queue) → Well q → T (are_bytes (write_image saved q))
unfolding write_image image_bytes handover
image_is_bytes saved q w =
    let h : Handover = handover saved q in
    append_bytes (streams_bytes h.streams) (messages_bytes h.messages ++ row_bytes trailer_widths (trailer_row h)) (streams_are_bytes h.streams)
    (append_bytes (messages_bytes h.messages) (row_bytes trailer_widths (trailer_row h)) (messages_are_bytes h.messages (records_bytes saved q.streams w.kept)) (row_are_bytes trailer_widths (trailer_row h)))

blank_store : (o : Options) (b : Bool) → (blank o b).options.store_length ≡ o.store_length
unfolding blank
blank_store o b = refl

-- Demand 2 on images, with the image's bytes: a saved image is accepted.
pub demand2_restores : (o : Options) (q : Queue) (saved now : ℕ) (b : Bool) → Reachable o q → now ≤ max_time → Restores now (write_image saved q) (fresh o b) (forget_plain (restore_remembering now (handover_state saved q) (fresh o b)))
unfolding Demand2Images
demand2_restores o q saved now b r early = record {
  bytes = image_is_bytes saved q (reachable_well r);
  accepted = subst (λ (n : ℕ). Restore.restore n now (write_image saved q) (fresh o b) ≡ reply done [] (forget_plain (restore_remembering now (handover_state saved q) (fresh o b)))) (sym (ap (λ (x : Queue). x.options.store_length) (fresh_blank o b) ∙ blank_store o b)) (demand2_images o q saved now b r early);
}
