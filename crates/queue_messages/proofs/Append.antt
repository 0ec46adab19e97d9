-- A message whose place, payload, chain and row in the scheduler the tests have accepted. Assumes nothing.
use mathlib.Core.Path.{◌≡◌, ap, ◌∙◌}
use mathlib.Core.Bool.{true}
use mathlib.Core.List.{List}
use Prim.Native.Nat.{ℕ, ◌≤◌, ◌<◌}
use native.Mathlib.Omega.{arith}
use borrow.Author.Tests.{le-ltb}
use lib.ListN.{length}
use Rattle.queue_words.specs.Header.{totals_at, scheduler_at}
use Rattle.queue_words.specs.Items.{item_at, put_item, FitsItem}
use Rattle.queue_words.specs.declared.header.Totals.{Totals}
use Rattle.queue_words.specs.declared.items.Item.{Item}
use Rattle.queue_words.specs.declared.streams.OutgoingStream.{OutgoingStream}
use Rattle.payload_store.specs.Putting.{Outcome, put_code, put_payload, outcome}
use Rattle.payload_store.proofs.Tests.{put_may}
use Rattle.queue_messages.specs.Message.{new_item_words}
use Rattle.queue_messages.specs.Add.{has_room_words, linked_last, counted, started, stored, appended_at, appended, MayAppend}
use Rattle.queue_messages.specs.declared.message.Message.{Message}
use Rattle.queue_messages.proofs.Tested.{room_kept, put_scheduler}
use Rattle.queue_messages.proofs.Unstored.{put_still}

module _ (ws st : List ℕ) (now : ℕ) (m : Message) (s : OutgoingStream) (bs : List ℕ) (y : MayAppend ws (length st) now m s (length bs))
    (t : Totals) (et : t ≡ totals_at ws) where
  pub own_place : t.free < 1024
  own_place = rw et (put_may ws (length st) (totals_at ws).free (length bs) y.may_put).row

  module _ (long : length ws ≡ 20768) (item : Item) (us : List ℕ) (ei : item ≡ new_item_words now t.next_message_id m) (eu : us ≡ put_item ws t.free item) where
    own_fits : item.max_retransmissions < 65536 → item.message_id.0 < 4294967296 → item.ppid < 4294967296 → FitsItem item
    unfolding new_item_words
    own_fits hr hi hp = record {
      ssn_fits = rw ei (omega arith);
      retransmissions_fits = hr;
      message_id_fits = hi;
      ppid_fits = hp;
      mid_fits = rw ei (omega arith);
      fsn_fits = rw ei (omega arith);
    }

    pub own_put : item.max_retransmissions < 65536 → item.message_id.0 < 4294967296 → item.ppid < 4294967296
        → put_code us (length st) t.free (length bs) ≤ 1
    unfolding new_item_words
    own_put hr hi hp =
        let f = own_fits hr hi hp in
        let c : put_code ws (length st) t.free (length bs) ≤ 1 = rw et y.may_put in
        rw eu (put_still ws long t.free item f (ap (λ (k : Item). k.place) ei) (ap (λ (k : Item). k.length) ei) (length st) (length bs) c)

    pub own_room : (xs sx : List ℕ) → outcome 0 xs sx ≡ put_payload us st t.free bs → has_room_words xs s ≡ true
    own_room xs sx ex = room_kept ws xs s (ap (λ (o : Outcome). scheduler_at o.words) ex ∙ put_scheduler ws us st t.free item bs long eu) y.has_room

  pub own_append : (row free : ℕ) (item : Item) (us xs sx ys : List ℕ) → free ≡ (item_at ws t.free).next
      → item ≡ new_item_words now t.next_message_id m → us ≡ put_item ws t.free item → outcome 0 xs sx ≡ put_payload us st t.free bs
      → ys ≡ started (counted (linked_last xs row s t.free (length bs)) free (length bs)) m.stream_id.0 s (length bs)
      → stored ys sx ≡ appended ws st now m bs row s
  unfolding appended appended_at
  own_append row free item us xs sx ys ef ei eu ex ey =
      let h : (totals_at ws).free ≤ 1023 = rw (← et) (omega (arith, own_place)) in
      rw (le-ltb 1023 (totals_at ws).free h, ← et, ← ef, ← ei, ← eu, ← ex, ← ey)
