-- A stream's turn in the whole-queue reset: its row stored, its head put back whole, and it waits. Assumes nothing.
use mathlib.Core.Path.{◌≡◌, refl, sym, ap, ◌∙◌, subst}
use mathlib.Core.Bool.{Bool, true, false}
use mathlib.Core.List.{List, [], ◌∷◌}
use Prim.Native.Nat.{ℕ, ◌+◌, ◌≤◌, ◌<◌}
use native.Mathlib.Omega.{arith}
use borrow.Author.Tests.{le-ltb, ltb-true, ltb-false}
use lib.Dec.{ltb}
use Rattle.queue_words.specs.Flags.{pick}
use Rattle.queue_words.specs.Header.{totals_at}
use Rattle.queue_words.specs.Items.{item_at, put_item, FitsItem}
use Rattle.queue_words.specs.Known.{known_at, id_at}
use Rattle.queue_words.specs.Streams.{stream_at_words, put_stream_words, FitsStream}
use Rattle.queue_words.specs.declared.header.Totals.{Totals}
use Rattle.queue_words.specs.declared.items.Item.{Item}
use Rattle.queue_words.specs.declared.known.Known.{Known}
use Rattle.queue_words.specs.declared.streams.OutgoingStream.{OutgoingStream}
use Rattle.queue_words.proofs.Laws
use Rattle.std.specs.Prelude.{if◌then◌else◌}
use Rattle.queue_model.specs.Types as plain
use Rattle.queue_model.specs.Types.{Stream, Scheduler, not_paused, model_with_pause, with_counters, with_items}
use Rattle.queue_model.specs.Reset.{model_put_back, model_whole_item, whole_head, reset_stream}
use Rattle.queue_model.specs.Streams.{has_items, some_items, zero_counters, reschedule, put_stream}
use Rattle.stream_scheduler.specs.Link.{model_scheduler}
use Rattle.payload_store.specs.Good.{payload_of}
use Rattle.message_chains.specs.Amounts.{sum}
use Rattle.queue_streams.specs.Waiting.{rescheduled}
use Rattle.queue_restarts.specs.Reset.{put_back, whole_stream, whole_item, whole_head_words, reset_in, reset_at}
use Rattle.queue_restarts.proofs.Settled.{whole_fits, whole_first}
use Rattle.queue_state.specs.Chains.{Linked, count, each}
use Rattle.queue_state.specs.Model.{next_of, item_of, item_in_words, pause_of, stream_of, row_at, stream_in, streams_in}
use Rattle.queue_state.specs.Good.{Shape}
use Rattle.queue_state.proofs.Chains.{linked_none, linked_some, linked_le, count_head}
use Rattle.queue_state.proofs.Frames.{stream_is, row_below, row_fits}
use Rattle.queue_state.proofs.OneItem.{shape_item, items_first, item_streams, item_scheduler}
use Rattle.queue_state.proofs.Rooms.{AllKnown, Listing, known_put, listing_streams}
use Rattle.linked_restarts.proofs.Sweeps.{Turn, turned}
use Rattle.linked_restarts.proofs.Turns.{first_is, wait_turn, stored_turn}
use Rattle.linked_restarts.proofs.Composes.{compose, turn_as}
use Rattle.linked_restarts.proofs.Backs.{back_at_words, back_at, amount_at, sum_fits}

-- ---- the model's stream in three parts

-- Opened, its counters zeroed, its amount with what comes back.
abbrev opened : Stream → Stream
opened s = model_with_pause not_paused (with_counters zero_counters (with_items s (s.amount + model_put_back s.items) s.items))

-- Its head whole.
abbrev headed : Bool → Stream → Stream
headed strict s = with_items s s.amount (whole_head strict s.items)

abbrev same : Stream → Stream
same s = s

abbrev still : Stream → Scheduler → Scheduler
still s sc = sc

abbrev pub waited : Bool → Bool → Stream → Scheduler → Scheduler
waited strict il = turned il has_items (reset_stream strict)

both_is : (strict : Bool) (s : Stream) → headed strict (opened s) ≡ reset_stream strict s
unfolding reset_stream
both_is strict s = refl

reset_items : (strict : Bool) (s : Stream) → has_items (reset_stream strict s) ≡ has_items s
unfolding reset_stream has_items some_items whole_head
reset_items strict s = go s.items
  where
    go : (is : List plain.Item) → some_items (whole_head strict is) ≡ some_items is
    go [] = refl
    go (i ∷ is) = refl

-- ---- the words' row

whole_last : (s : OutgoingStream) (b : ℕ) → (whole_stream s b).last ≡ s.last
unfolding whole_stream
whole_last s b = refl

whole_priority : (s : OutgoingStream) (b : ℕ) → (whole_stream s b).priority ≡ s.priority
unfolding whole_stream
whole_priority s b = refl

whole_is : (id : ℕ) (s : OutgoingStream) (is : List plain.Item) (b : ℕ) → sum s.buffered_amount b ≡ s.buffered_amount + model_put_back is → stream_of id (whole_stream s b) is ≡ opened (stream_of id s is)
unfolding whole_stream pause_of
whole_is id s is b e = rw e

-- ---- the head put back whole

whole_item_fits : (strict : Bool) (m : Item) → FitsItem m → FitsItem (whole_item strict m)
whole_item_fits true m f =
    record { ssn_fits = omega arith; retransmissions_fits = f.retransmissions_fits; message_id_fits = f.message_id_fits; ppid_fits = f.ppid_fits; mid_fits = omega arith; fsn_fits = omega arith }
whole_item_fits false m f =
    record { ssn_fits = f.ssn_fits; retransmissions_fits = f.retransmissions_fits; message_id_fits = f.message_id_fits; ppid_fits = f.ppid_fits; mid_fits = f.mid_fits; fsn_fits = f.fsn_fits }

whole_item_is : (strict : Bool) (m : Item) (bs : List ℕ) → item_of (whole_item strict m) bs ≡ model_whole_item strict (item_of m bs)
whole_item_is true m bs = refl
whole_item_is false m bs = refl

module _ (strict : Bool) (us st : List ℕ) (g : Shape us st) (a : AllKnown us st) (i : ℕ) (hi : i < (totals_at us).known) (x : ℕ) (xs : List ℕ) (e : g.q i ≡ x ∷ xs) where
  member : 1 ≤ count x (g.q i)
  member = subst (λ l. 1 ≤ count x l) (sym e) (count_head x xs)

  below : x < 1024
  below = row_fits g.q g.fr x i g.split (omega (arith, g.known_fits)) member

  start_fits : FitsItem (whole_item strict (item_at us x))
  start_fits = whole_item_fits strict (item_at us x) (Laws.item_at_fits us x)

  whole_items : item_of (whole_item strict (item_at us x)) (payload_of us st x) ∷ each (item_in_words us st) xs ≡ whole_head strict (each (item_in_words us st) (x ∷ xs))
  unfolding whole_head item_in_words
  whole_items = ap (λ (m : plain.Item). m ∷ each (item_in_words us st) xs) (whole_item_is strict (item_at us x) (payload_of us st x))

  new_items : each (item_in_words (put_item us x (whole_item strict (item_at us x))) st) (g.q i) ≡ whole_head strict (each (item_in_words us st) (g.q i))
  new_items = items_first us st g i hi x member (whole_item strict (item_at us x)) start_fits refl refl refl xs e ∙ whole_items ∙ ap (λ l. whole_head strict (each (item_in_words us st) l)) (sym e)

  head_streams : streams_in (put_item us x (whole_item strict (item_at us x))) st ≡ put_stream (headed strict (stream_in us st i)) (streams_in us st)
  head_streams =
      item_streams us st g i hi x member (whole_item strict (item_at us x)) start_fits refl refl refl
      ∙ ap (λ is. put_stream (stream_of (id_at us i) (stream_at_words us (row_at us i)) is) (streams_in us st)) new_items
      ∙ ap (λ (s : Stream). put_stream (headed strict s) (streams_in us st)) (sym (stream_is us st g i hi))

  head_scheduler : model_scheduler (put_item us x (whole_item strict (item_at us x))) ≡ model_scheduler us
  head_scheduler = item_scheduler us st g i hi x member (whole_item strict (item_at us x)) start_fits refl refl refl

  head_turn : Turn (headed strict) still us st i (whole_head_words strict us x)
  unfolding whole_head_words
  head_turn = record {
    shape = (shape_item us st g i hi x member (whole_item strict (item_at us x)) start_fits refl refl refl).shape;
    totals = Laws.totals_put_item us x (whole_item strict (item_at us x));
    options = Laws.options_put_item us x (whole_item strict (item_at us x));
    streams = head_streams;
    scheduler = head_scheduler;
    known = subst (λ (ss : List Stream). Listing ss (model_scheduler (put_item us x (whole_item strict (item_at us x)))).active) (sym head_streams)
        (subst (λ (sc : Scheduler). Listing (put_stream (headed strict (stream_in us st i)) (streams_in us st)) sc.active) (sym head_scheduler)
        (listing_streams (streams_in us st) (put_stream (headed strict (stream_in us st i)) (streams_in us st)) (model_scheduler us).active (known_put (headed strict (stream_in us st i)) (streams_in us st)) a));
  }

-- ---- the turn

module _ (strict il : Bool) (us st : List ℕ) (g : Shape us st) (a : AllKnown us st) (i : ℕ) (hi : i < (totals_at us).known) (small : (stream_in us st i).amount + back_at_words us st i ≤ 2000000) where
  abbrev row : OutgoingStream
  row = stream_at_words us (row_at us i)

  abbrev back : ℕ
  back = put_back us row.first

  abbrev new : OutgoingStream
  new = whole_stream row back

  new_is : stream_of (id_at us i) new (each (item_in_words us st) (g.q i)) ≡ opened (stream_in us st i)
  new_is =
      let h : stream_in us st i ≡ stream_of (id_at us i) row (each (item_in_words us st) (g.q i)) = stream_is us st g i hi in
      let b : back ≡ back_at_words us st i = back_at us st g i hi in
      let p : back_at_words us st i ≡ model_put_back (each (item_in_words us st) (g.q i)) = ap (λ (s : Stream). model_put_back s.items) h in
      let w : row.buffered_amount + back ≤ 2000000 = omega (arith, small, amount_at us st g i hi, b) in
      let e : row.buffered_amount + back ≡ row.buffered_amount + model_put_back (each (item_in_words us st) (g.q i)) = omega (arith, b, p) in
      whole_is (id_at us i) row (each (item_in_words us st) (g.q i)) back (sum_fits row.buffered_amount back w ∙ e)
      ∙ ap opened (sym h)

  fits : FitsStream new
  fits = whole_fits row back (Laws.stream_at_fits us (row_at us i))

  -- The row is stored.
  abbrev vs : List ℕ
  vs = put_stream_words us (row_at us i) new

  row_turn : Turn opened still us st i vs
  row_turn = stored_turn us st g a i hi opened still new fits
      (whole_first row back) (whole_last row back) new_is refl

  hi_vs : i < (totals_at vs).known
  hi_vs = subst (λ (t : Totals). i < t.known) (sym row_turn.totals) hi

  below_i : i < 256
  below_i = omega (arith, g.known_fits)

  known_vs : known_at vs i ≡ known_at us i
  known_vs = Laws.known_put_stream us (row_at us i) new i below_i

  row_vs : row_at vs i ≡ row_at us i
  row_vs = ap (λ (k : Known). k.place) known_vs

  stored_row : stream_at_words vs (row_at us i) ≡ new
  stored_row = Laws.stream_at_put us (row_at us i) new g.long (row_below us st g i hi) fits

  first_vs : (stream_at_words vs (row_at vs i)).first ≡ row.first
  first_vs = ap (λ r. (stream_at_words vs r).first) row_vs ∙ ap (λ (s : OutgoingStream). s.first) stored_row ∙ whole_first row back

  filled : has_items (reset_stream strict (stream_in us st i)) ≡ ltb row.first 1024
  filled = reset_items strict (stream_in us st i) ∙ ap has_items (stream_is us st g i hi) ∙ first_is us st (id_at us i) row.first row (g.q i) (g.rows i hi).linked

  module _ (in_table : row.first < 1024) where
    -- The head is put back.
    abbrev hs : List ℕ
    hs = whole_head_words strict vs row.first

    behind : (xs : List ℕ) × (row_turn.shape.q i ≡ row.first ∷ xs)
    behind =
        let l : Linked (next_of vs) row.first (row_turn.shape.q i) = subst (λ n. Linked (next_of vs) n (row_turn.shape.q i)) first_vs (row_turn.shape.rows i hi_vs).linked in
        let s = linked_some (next_of vs) row.first (row_turn.shape.q i) l (λ z. omega arith) in
        (s.0, s.1)

    second : Turn (headed strict) still vs st i hs
    second = head_turn strict vs st row_turn.shape row_turn.known i hi_vs row.first behind.0 behind.1

    hi_hs : i < (totals_at hs).known
    hi_hs = subst (λ (t : Totals). i < t.known) (sym second.totals) hi_vs

    known_hs : known_at hs i ≡ known_at us i
    unfolding whole_head_words
    known_hs = Laws.known_put_item vs row.first (whole_item strict (item_at vs row.first)) i below_i ∙ known_vs

    row_hs : stream_at_words hs (row_at hs i) ≡ new
    unfolding whole_head_words
    row_hs = ap (λ (k : Known). stream_at_words hs k.place) known_hs ∙ Laws.stream_put_item vs row.first (whole_item strict (item_at vs row.first)) (row_at us i) (row_below us st g i hi) ∙ stored_row

    -- It waits.
    third : Turn same (λ s sc. reschedule il s sc) hs st i (rescheduled hs il (id_at us i) row.first row.priority)
    third =
        let t = wait_turn hs st second.shape second.known i hi_hs same (λ s sc. reschedule il s sc) il refl refl in
        let ed : id_at hs i ≡ id_at us i = ap (λ (k : Known). k.id.0) known_hs in
        let ef : (stream_at_words hs (row_at hs i)).first ≡ row.first = ap (λ (s : OutgoingStream). s.first) row_hs ∙ whole_first row back in
        let ep : (stream_at_words hs (row_at hs i)).priority ≡ row.priority = ap (λ (s : OutgoingStream). s.priority) row_hs ∙ whole_priority row back in
        subst (λ d. Turn same (λ s sc. reschedule il s sc) hs st i (rescheduled hs il d row.first row.priority)) ed
        (subst (λ f. Turn same (λ s sc. reschedule il s sc) hs st i (rescheduled hs il (id_at hs i) f row.priority)) ef
        (subst (λ p. Turn same (λ s sc. reschedule il s sc) hs st i (rescheduled hs il (id_at hs i) (stream_at_words hs (row_at hs i)).first p)) ep t))

    filled_turn : has_items (reset_stream strict (stream_in us st i)) ≡ true → Turn (reset_stream strict) (waited strict il) us st i (rescheduled hs il (id_at us i) row.first row.priority)
    filled_turn f =
        let t : Turn (λ s. headed strict (opened s)) (λ s sc. sc) us st i hs = compose us st g i hi opened (headed strict) still still vs hs (λ s. refl) (λ s. refl) row_turn second in
        let u = compose us st g i hi (λ s. headed strict (opened s)) same (λ s sc. sc) (λ s sc. reschedule il s sc) hs (rescheduled hs il (id_at us i) row.first row.priority) (λ s. refl) (λ s. refl) t third in
        turn_as us st g i hi (λ s. headed strict (opened s)) (reset_stream strict) (λ s sc. reschedule il (headed strict (opened s)) sc) (waited strict il) (rescheduled hs il (id_at us i) row.first row.priority)
        (both_is strict (stream_in us st i))
        (ap (λ (s : Stream). reschedule il s (model_scheduler us)) (both_is strict (stream_in us st i)) ∙ ap (λ (b : Bool). if b then reschedule il (reset_stream strict (stream_in us st i)) (model_scheduler us) else model_scheduler us) (sym f)) u

  -- A stream without messages.
  empty_head : 1024 ≤ row.first → headed strict (opened (stream_in us st i)) ≡ opened (stream_in us st i)
  empty_head h =
      let z : row.first ≡ 1024 = omega (arith, linked_le (next_of us) row.first (g.q i) (g.rows i hi).linked) in
      let e : g.q i ≡ [] = linked_none (next_of us) row.first (g.q i) (g.rows i hi).linked z in
      let k : (stream_in us st i).items ≡ [] = ap (λ (s : Stream). s.items) (stream_is us st g i hi) ∙ ap (each (item_in_words us st)) e in
      ap (λ is. with_items (opened (stream_in us st i)) (opened (stream_in us st i)).amount is) (whole_empty (stream_in us st i).items k)
    where
      whole_empty : (is : List plain.Item) → is ≡ [] → whole_head strict is ≡ is
      whole_empty [] e = unfold whole_head in refl
      whole_empty (j ∷ is) e = let z : ◌≡◌ {A = ℕ} 0 1 = cc in absurd (omega arith)

  empty_turn : 1024 ≤ row.first → has_items (reset_stream strict (stream_in us st i)) ≡ false → Turn (reset_stream strict) (waited strict il) us st i vs
  empty_turn h f = turn_as us st g i hi opened (reset_stream strict) still (waited strict il) vs (sym (empty_head h) ∙ both_is strict (stream_in us st i))
      (ap (λ (b : Bool). if b then reschedule il (reset_stream strict (stream_in us st i)) (model_scheduler us) else model_scheduler us) (sym f)) row_turn

  by_first : (b : Bool) → ltb row.first 1024 ≡ b
      → Turn (reset_stream strict) (waited strict il) us st i (pick b (rescheduled (whole_head_words strict vs row.first) il (id_at us i) row.first row.priority) vs)
  by_first true e = filled_turn (ltb-true row.first 1024 e) (filled ∙ e)
  by_first false e = empty_turn (ltb-false row.first 1024 e) (filled ∙ e)

  pub reset_turn : Turn (reset_stream strict) (waited strict il) us st i (reset_at strict us il (id_at us i) (row_at us i))
  unfolding reset_at reset_in
  reset_turn =
      let r : row_at us i < 256 = row_below us st g i hi in
      rw (le-ltb 255 (row_at us i) (omega arith)) (by_first (ltb row.first 1024) refl)
