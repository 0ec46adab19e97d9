-- Adding leaves nothing undone, on any words (specs/Settled): between the test and the two steps nothing is written that the test has read, but the new
-- message's own row (queue_messages: proofs/Tested, proofs/Unstored). Assumes nothing.
use mathlib.Core.Path.{◌≡◌, refl, ◌∙◌}
use mathlib.Core.Bool.{Bool, true, false}
use mathlib.Core.List.{List}
use Prim.Native.Nat.{ℕ, ◌≤◌, ◌<◌}
use native.Mathlib.Omega.{arith}
use borrow.Author.Tests.{le-ltb, lt-ltb, ne_eqb, eq-eqb}
use lib.Dec.{leb}
use lib.ListN.{length}
use Rattle.queue_words.specs.Flags.{pick}
use Rattle.queue_words.specs.Header.{totals_at, scheduler_at}
use Rattle.queue_words.specs.Items.{put_item}
use Rattle.queue_words.specs.declared.active.SchedulingParameters.{SchedulingParameters}
use Rattle.queue_words.specs.declared.items.Item.{Item}
use Rattle.queue_words.specs.declared.streams.OutgoingStream.{OutgoingStream}
use Rattle.payload_store.specs.Words.{used_of}
use Rattle.payload_store.specs.Gaps.{gaps, room}
use Rattle.payload_store.specs.Moving.{together}
use Rattle.payload_store.specs.Searching.{found}
use Rattle.payload_store.specs.Putting.{Outcome, put_code, put_elsewhere, put_payload, placed}
use Rattle.payload_store.proofs.Cases.{by_index}
use Rattle.stream_scheduler.specs.Words.{set_in, begin_waiting}
use Rattle.queue_messages.specs.Add.{linked_last, counted, stream_for, row_for, made_known}
use Rattle.queue_messages.specs.Message.{new_item_words}
use Rattle.queue_messages.proofs.Tested.{known_long, known_passed, room_of, room_kept, linked_scheduler, counted_scheduler, put_scheduler}
use Rattle.queue_messages.proofs.Unstored.{put_still}
use Rattle.linked_adding.specs.Settled.{AddSettled}
use Rattle.linked_adding.proofs.Adds.{item_fits}

-- a put whose test passes is done
elsewhere_done : (us st : List ℕ) (i : ℕ) (bs : List ℕ) → (put_elsewhere us st i bs).answer ≡ 0
unfolding put_elsewhere placed
elsewhere_done us st i bs = go (leb (length bs) (room (found us (used_of us) (length st)))) (placed us st (found us (used_of us) (length st)) i bs) (placed (together us st).words (together us st).store (gaps (used_of (together us st).words) (length st) 0 0) i bs) refl refl
  where
    go : (b : Bool) (x y : Outcome) → x.answer ≡ 0 → y.answer ≡ 0 → (pick b x y).answer ≡ 0
    go true x y h k = h
    go false x y h k = k

put_done : (us st : List ℕ) (i : ℕ) (bs : List ℕ) → put_code us (length st) i (length bs) ≤ 1 → (put_payload us st i bs).answer ≡ 0
unfolding put_payload placed
put_done us st i bs c = by_index (put_code us (length st) i (length bs)) 0
    (λ e. rw (eq-eqb (put_code us (length st) i (length bs)) 0 e))
    (λ ne. rw (ne_eqb (put_code us (length st) i (length bs)) 0 ne, eq-eqb (put_code us (length st) i (length bs)) 1 (omega arith)) (elsewhere_done us st i bs))

-- with fewer than 256 rows a stream without a row is let wait
begun_done : (us : List ℕ) (id bytes : ℕ) (p : SchedulingParameters) → (scheduler_at us).active < 256 → (begin_waiting us id bytes p).done ≡ true
unfolding begin_waiting set_in
begun_done us id bytes p h = rw (le-ltb 256 (scheduler_at us).active (omega arith), le-ltb (scheduler_at us).active (scheduler_at us).active (omega arith), lt-ltb (scheduler_at us).active 256 h)

pub add_settled : AddSettled
unfolding new_item_words
add_settled ws st time m bs at l t h e =
    let n : ℕ = length bs in
    let s : OutgoingStream = stream_for ws at in
    let vs : List ℕ = made_known ws m.stream_id.0 at in
    let long : length vs ≡ 20768 = known_long ws (length st) m.stream_id.0 n at l h in
    let y = known_passed ws (length st) m.stream_id.0 n at l h e in
    let p : ℕ = (totals_at vs).free in
    let item : Item = new_item_words time (totals_at vs).next_message_id m in
    let us : List ℕ = put_item vs p item in
    let os : List ℕ = (put_payload us st p bs).words in
    let xs : List ℕ = linked_last os (row_for ws at) s p n in
    record {
      put = put_done us st p bs (put_still vs long p item (item_fits vs time m bs t) refl refl (length st) n y.coded);
      begun = λ free id q st_e.
          let zs : List ℕ = counted xs free n in
          let k : scheduler_at zs ≡ scheduler_at vs =
          counted_scheduler xs free n ∙ linked_scheduler os (row_for ws at) s p n ∙ put_scheduler vs us st p item bs long refl
          in
          begun_done zs id n q (room_of zs s (room_kept vs zs s k y.roomy) st_e);
    }
