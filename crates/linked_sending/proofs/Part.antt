-- A part of a message handed out: what the words then stand for. Assumes nothing.
use mathlib.Core.Path.{◌≡◌, refl, sym, ap, ◌∙◌, subst}
use mathlib.Core.Bool.{Bool, true, false}
use mathlib.Core.List.{List, ◌∷◌}
use Prim.Native.Nat.{ℕ, ◌≤◌, ◌<◌}
use native.Mathlib.Omega.{arith}
use Rattle.queue_words.specs.Header.{options_at, totals_at, put_totals, FitsTotals}
use Rattle.queue_words.specs.Flags.{pick}
use Rattle.queue_words.specs.Items.{are_given, item_at, put_item, FitsItem}
use Rattle.queue_words.specs.Known.{known_at, id_at}
use Rattle.queue_words.specs.Streams.{stream_at_words, put_stream_words, FitsStream}
use Rattle.queue_words.specs.declared.header.Totals.{Totals}
use Rattle.queue_words.specs.declared.items.Item.{Item}
use Rattle.queue_words.specs.declared.known.Known.{Known}
use Rattle.queue_words.specs.declared.streams.OutgoingStream.{OutgoingStream}
use Rattle.queue_words.proofs.Laws
use Rattle.queue_model.specs.Types.{Stream}
use Rattle.queue_model.specs.Types as plain
use Rattle.queue_model.specs.Scheduler.{accept}
use Rattle.queue_model.specs.Streams.{put_stream, stream_key}
use Rattle.payload_store.specs.Good.{payload_of}
use Rattle.stream_scheduler.specs.Link.{entry_at, model_scheduler}
use Rattle.stream_scheduler.specs.Words.{accept_at}
use Rattle.queue_sending.specs.Fragment.{less_total, less_amount, went_on_words, went_further}
use Rattle.queue_sending.specs.Numbers.{numbered_item, numbered_stream, moved_on_words}
use Rattle.queue_state.specs.Chains.{count, each}
use Rattle.queue_state.specs.Model.{item_of, item_in_words, stream_of, row_at, streams_in}
use Rattle.queue_state.specs.Good.{Shape}
use Rattle.queue_state.proofs.Chains.{count_head, each_frame}
use Rattle.queue_state.proofs.Splits.{upd_same}
use Rattle.queue_state.proofs.Frames.{Same, row_below, row_fits}
use Rattle.queue_state.proofs.Steps.{After}
use Rattle.queue_state.proofs.Singles.{Alike, Unmoved, unmoved, alike_untouched, shape_totals, shape_row, row_streams}
use Rattle.stream_scheduler.proofs.Link.{scheduler_same}
use Rattle.queue_state.proofs.OneItem.{shape_item, items_first, item_streams, item_scheduler}
use Rattle.queue_state.proofs.Rooms.{AllKnown, Let, accept_known}
use Rattle.queue_state.proofs.Twice.{put_twice}
use Rattle.queue_state.proofs.Alikes.{alike_same, alike_both, alike_totals}
use Rattle.linked_sending.proofs.Further.{Further, further}
use Rattle.linked_sending.proofs.Looking.{Choice}
use Rattle.linked_sending.proofs.Numbering.{renumbered, numbered_before, moved_same, stream_fits, item_fits, moved_fits}

-- The words after a part of the chosen message.
pub record WentOn (ws st : List ℕ) (g : Shape ws st) (at : ℕ) (c : Choice ws st g at) (n : ℕ) (us : List ℕ) : Type 0 where
  pub shape : Shape us st
  pub options : options_at us ≡ options_at ws
  pub totals : totals_at us ≡ less_total (totals_at ws) n
  pub scheduler : model_scheduler us ≡ accept (entry_at ws at) n (model_scheduler ws)
  pub streams : streams_in us st ≡ put_stream (stream_of (id_at ws c.pos) (less_amount (numbered_stream (stream_at_words ws (row_at ws c.pos)) (item_at ws c.first)) n)
      (item_of (moved_on_words (numbered_item (stream_at_words ws (row_at ws c.pos)) (item_at ws c.first)) n) (payload_of ws st c.first) ∷ each (item_in_words ws st) c.rest)) (streams_in ws st)

less_fits : (s : OutgoingStream) (n : ℕ) → FitsStream s → FitsStream (less_amount s n)
less_fits s n f = record {
  priority_fits = f.priority_fits;
  ssn_fits = f.ssn_fits;
  unordered_mid_fits = f.unordered_mid_fits;
  ordered_mid_fits = f.ordered_mid_fits;
}

module _ (ws st : List ℕ) (g : Shape ws st) (known : AllKnown ws st) (at : ℕ) (c : Choice ws st g at) (n : ℕ) where
  abbrev i : ℕ
  i = c.pos

  abbrev x : ℕ
  x = c.first

  abbrev s : OutgoingStream
  s = stream_at_words ws (row_at ws c.pos)

  abbrev m : Item
  m = item_at ws c.first

  abbrev s' : OutgoingStream
  s' = numbered_stream (stream_at_words ws (row_at ws c.pos)) (item_at ws c.first)

  abbrev m' : Item
  m' = numbered_item (stream_at_words ws (row_at ws c.pos)) (item_at ws c.first)

  below : c.pos < 256
  below = omega (arith, c.known, g.known_fits)

  -- the scheduler
  abbrev u1 : List ℕ
  u1 = (accept_at ws at n).next

  one : Let ws st g (accept_at ws at n).next (accept (entry_at ws at) n (model_scheduler ws))
  one = accept_known ws st g known at n c.listed

  abbrev g1 : Shape (accept_at ws at n).next st
  g1 = one.unmoved.shape

  alike1 : Alike ws u1
  alike1 = alike_untouched ws u1 (one.unmoved.shape.long ∙ sym g.long) one.untouched

  -- the total
  abbrev u2 : List ℕ
  u2 = put_totals u1 (less_total (totals_at u1) n)

  fits2 : FitsTotals (less_total (totals_at u1) n)
  fits2 = record { message_id_fits = (Laws.totals_at_fits u1).message_id_fits }

  two : Unmoved u1 st g1 u2
  two = shape_totals u1 st (less_total (totals_at u1) n) g1 fits2 refl refl refl refl refl

  abbrev g2 : Shape u2 st
  g2 = two.shape

  alike2 : Alike ws u2
  alike2 = alike_both ws u1 u2 alike1 (alike_totals u1 (less_total (totals_at u1) n) g1.long fits2 refl refl refl refl refl)

  places2 : g2.q c.pos ≡ c.first ∷ c.rest
  places2 = two.q_is c.pos ∙ one.unmoved.q_is c.pos ∙ c.places_are

  known2 : c.pos < (totals_at u2).known
  known2 = omega (arith, c.known, alike2.known)

  has2 : 1 ≤ count c.first (g2.q c.pos)
  has2 = rw places2 (count_head c.first c.rest)

  same2 : (y : ℕ) → y < 1024 → Same ws st u2 st y
  same2 y h = alike_same ws st u2 alike2 y h

  -- the message
  abbrev m3 : Item
  m3 = moved_on_words m' n

  fits3 : FitsItem m3
  fits3 = moved_fits m' n (item_fits s m (Laws.stream_at_fits ws (row_at ws c.pos)) (Laws.item_at_fits ws c.first))

  item2 : item_at u2 c.first ≡ m
  item2 = alike2.items c.first c.first_fits

  next3 : m3.next ≡ (item_at u2 c.first).next
  next3 = (moved_same m' n).next_same ∙ (renumbered s m).next_same ∙ sym (ap (λ (y : Item). y.next) item2)

  place3 : m3.place ≡ (item_at u2 c.first).place
  place3 = (moved_same m' n).place_same ∙ (renumbered s m).place_same ∙ sym (ap (λ (y : Item). y.place) item2)

  length3 : m3.length ≡ (item_at u2 c.first).length
  length3 = (moved_same m' n).length_same ∙ (renumbered s m).length_same ∙ sym (ap (λ (y : Item). y.length) item2)

  abbrev u3 : List ℕ
  u3 = put_item u2 c.first m3

  three : After u2 st g2 c.pos u3 st (g2.q c.pos) g2.fr
  three = shape_item u2 st g2 c.pos known2 c.first has2 m3 fits3 next3 place3 length3

  abbrev g3 : Shape u3 st
  g3 = three.shape

  rest_fits : (y : ℕ) → 1 ≤ count y c.rest → y < 1024
  rest_fits y h =
      let k : 1 ≤ count y (c.first ∷ c.rest) = omega arith in
      row_fits g.q g.fr y c.pos g.split below (rw c.places_are k)

  items3 : each (item_in_words u3 st) (g3.q c.pos) ≡ item_of m3 (payload_of ws st c.first) ∷ each (item_in_words ws st) c.rest
  unfolding item_in_words
  items3 =
      let e : g3.q c.pos ≡ g2.q c.pos = three.q_is c.pos ∙ upd_same g2.q c.pos (g2.q c.pos) in
      let p : payload_of u2 st c.first ≡ payload_of ws st c.first = ap (λ (y : plain.Item). y.payload) (same2 c.first c.first_fits).item_same in
      let f : each (item_in_words u2 st) c.rest ≡ each (item_in_words ws st) c.rest = each_frame (item_in_words ws st) (item_in_words u2 st) c.rest (λ y h. (same2 y (rest_fits y h)).item_same) in
      rw e (items_first u2 st g2 c.pos known2 c.first has2 m3 fits3 next3 place3 length3 c.rest places2 ∙ rw (p, f))

  -- the stream
  table3 : known_at u3 c.pos ≡ known_at ws c.pos
  table3 = Laws.known_put_item u2 c.first m3 c.pos below ∙ alike2.table c.pos below

  row3 : row_at u3 c.pos ≡ row_at ws c.pos
  row3 = ap (λ (k : Known). k.place) table3

  in_rows : row_at ws c.pos < 256
  in_rows = row_below ws st g c.pos c.known

  stream3 : stream_at_words u3 (row_at ws c.pos) ≡ s
  stream3 = Laws.stream_put_item u2 c.first m3 (row_at ws c.pos) in_rows ∙ alike2.rows (row_at ws c.pos) in_rows

  abbrev s4 : OutgoingStream
  s4 = less_amount s' n

  fits4 : FitsStream s4
  fits4 = less_fits s' n (stream_fits s m (Laws.stream_at_fits ws (row_at ws c.pos)))

  first4 : s4.first ≡ (stream_at_words u3 (row_at u3 c.pos)).first
  first4 = (renumbered s m).first_same ∙ sym (ap (λ (y : OutgoingStream). y.first) (ap (stream_at_words u3) row3 ∙ stream3))

  last4 : s4.last ≡ (stream_at_words u3 (row_at u3 c.pos)).last
  last4 = (renumbered s m).last_same ∙ sym (ap (λ (y : OutgoingStream). y.last) (ap (stream_at_words u3) row3 ∙ stream3))

  totals3 : totals_at u3 ≡ less_total (totals_at u1) n
  totals3 = Laws.totals_put_item u2 c.first m3 ∙ Laws.totals_at_put u1 (less_total (totals_at u1) n) g1.long fits2

  known3 : c.pos < (totals_at u3).known
  known3 =
      let e : (totals_at u3).known ≡ (totals_at u1).known = ap (λ (t : Totals). t.known) totals3 in
      omega (arith, c.known, alike1.known)

  abbrev u4 : List ℕ
  u4 = put_stream_words u3 (row_at u3 c.pos) s4

  four : After u3 st g3 c.pos u4 st (g3.q c.pos) g3.fr
  four = shape_row u3 st g3 c.pos known3 s4 fits4 first4 last4

  streams2 : streams_in u2 st ≡ streams_in ws st
  streams2 = two.streams ∙ one.unmoved.streams

  id3 : id_at u3 c.pos ≡ id_at ws c.pos
  id3 = ap (λ (k : Known). k.id.0) table3

  id2 : id_at u2 c.pos ≡ id_at ws c.pos
  id2 = ap (λ (k : Known). k.id.0) (alike2.table c.pos below)

  -- the row of the message's step is put over
  twice : (y : Stream) → y.id ≡ id_at ws c.pos → put_stream y (streams_in u3 st) ≡ put_stream y (streams_in ws st)
  twice y e =
      ap (put_stream y) (item_streams u2 st g2 c.pos known2 c.first has2 m3 fits3 next3 place3 length3)
      ∙ put_twice stream_key (stream_of (id_at u2 c.pos) (stream_at_words u2 (row_at u2 c.pos)) (each (item_in_words u3 st) (g2.q c.pos))) y (streams_in u2 st) (id2 ∙ sym e)
      ∙ ap (put_stream y) streams2

  streams4 : streams_in u4 st ≡ put_stream (stream_of (id_at ws c.pos) s4 (item_of m3 (payload_of ws st c.first) ∷ each (item_in_words ws st) c.rest)) (streams_in ws st)
  streams4 =
      let e : stream_of (id_at u3 c.pos) s4 (each (item_in_words u3 st) (g3.q c.pos)) ≡ stream_of (id_at ws c.pos) s4 (item_of m3 (payload_of ws st c.first) ∷ each (item_in_words ws st) c.rest) = rw (id3, items3) in
      row_streams u3 st g3 c.pos known3 s4 fits4 first4 last4
      ∙ ap (λ (y : Stream). put_stream y (streams_in u3 st)) e
      ∙ twice (stream_of (id_at ws c.pos) s4 (item_of m3 (payload_of ws st c.first) ∷ each (item_in_words ws st) c.rest)) refl

  scheduler4 : model_scheduler u4 ≡ accept (entry_at ws at) n (model_scheduler ws)
  scheduler4 =
      (scheduler_same u3 u4 (Laws.whole_put_stream u3 (row_at u3 c.pos) s4) (Laws.options_put_stream u3 (row_at u3 c.pos) s4) (Laws.scheduler_put_stream u3 (row_at u3 c.pos) s4) (λ j. Laws.active_put_stream u3 (row_at u3 c.pos) s4 j (rw row3 in_rows)) (Laws.leasts_put_stream u3 (row_at u3 c.pos) s4) g3.schedules).1
      ∙ item_scheduler u2 st g2 c.pos known2 c.first has2 m3 fits3 next3 place3 length3
      ∙ (scheduler_same u1 u2 (Laws.whole_put_totals u1 (less_total (totals_at u1) n)) (Laws.options_put_totals u1 (less_total (totals_at u1) n)) (Laws.scheduler_put_totals u1 (less_total (totals_at u1) n)) (Laws.active_put_totals u1 (less_total (totals_at u1) n)) (Laws.leasts_put_totals u1 (less_total (totals_at u1) n)) g1.schedules).1
      ∙ one.scheduler

  options4 : options_at u4 ≡ options_at ws
  options4 = Laws.options_put_stream u3 (row_at u3 c.pos) s4 ∙ Laws.options_put_item u2 c.first m3 ∙ Laws.options_put_totals u1 (less_total (totals_at u1) n) ∙ one.untouched.same_options

  totals4 : totals_at u4 ≡ less_total (totals_at ws) n
  totals4 = Laws.totals_put_stream u3 (row_at u3 c.pos) s4 ∙ totals3 ∙ ap (λ (t : Totals). less_total t n) one.untouched.same_totals

  are : u4 ≡ went_on_words (accept_at ws at n).next (row_at ws c.pos) s' m' n
  unfolding went_on_words
  are =
      let e : s'.first ≡ c.first = (renumbered s m).first_same ∙ c.first_is in
      rw (row3, e)

  pub went_on : WentOn ws st g at c n (went_on_words (accept_at ws at n).next (row_at ws c.pos) (numbered_stream (stream_at_words ws (row_at ws c.pos)) (item_at ws c.first)) (numbered_item (stream_at_words ws (row_at ws c.pos)) (item_at ws c.first)) n)
  went_on = subst (WentOn ws st g at c n) are (record { shape = four.shape; options = options4; totals = totals4; scheduler = scheduler4; streams = streams4 })

  -- The message had its numbers before: what is stored alone reads the same.
  pub went_further_lem : are_given (item_at ws c.first).numbers ≡ true
      → WentOn ws st g at c n (went_further (accept_at ws at n).next (row_at ws c.pos) (numbered_stream (stream_at_words ws (row_at ws c.pos)) (item_at ws c.first)) (numbered_item (stream_at_words ws (row_at ws c.pos)) (item_at ws c.first)) n)
  went_further_lem e =
      let z = numbered_before s m e in
      let w = went_on in
      let d : s'.first ≡ c.first = (renumbered s m).first_same ∙ c.first_is in
      let f : Further (went_on_words u1 (row_at ws c.pos) s' m' n) (went_further u1 (row_at ws c.pos) s' m' n) = further u1 (row_at ws c.pos) n s' m' g1.long in_rows (omega (arith, d, c.first_fits))
      (alike1.rows (row_at ws c.pos) in_rows ∙ sym z.0) (ap (item_at u1) d ∙ alike1.items c.first c.first_fits ∙ sym z.1) in
      let k = scheduler_same (went_on_words u1 (row_at ws c.pos) s' m' n) (went_further u1 (row_at ws c.pos) s' m' n) f.alike.long f.options f.scheduler f.actives f.leasts w.shape.schedules in
      let y = unmoved (went_on_words u1 (row_at ws c.pos) s' m' n) st w.shape (went_further u1 (row_at ws c.pos) s' m' n) f.alike k.0 in
      record { shape = y.shape; options = f.options ∙ w.options; totals = f.totals ∙ w.totals; scheduler = k.1 ∙ w.scheduler; streams = y.streams ∙ w.streams }

  -- Either way.
  pub went_part : WentOn ws st g at c n (pick (are_given (item_at ws c.first).numbers)
      (went_further (accept_at ws at n).next (row_at ws c.pos) (numbered_stream (stream_at_words ws (row_at ws c.pos)) (item_at ws c.first)) (numbered_item (stream_at_words ws (row_at ws c.pos)) (item_at ws c.first)) n)
      (went_on_words (accept_at ws at n).next (row_at ws c.pos) (numbered_stream (stream_at_words ws (row_at ws c.pos)) (item_at ws c.first)) (numbered_item (stream_at_words ws (row_at ws c.pos)) (item_at ws c.first)) n))
  went_part = go (are_given (item_at ws c.first).numbers) refl
    where
      go : (b : Bool) → are_given (item_at ws c.first).numbers ≡ b
          → WentOn ws st g at c n (pick b (went_further (accept_at ws at n).next (row_at ws c.pos) s' m' n) (went_on_words (accept_at ws at n).next (row_at ws c.pos) s' m' n))
      go true e = went_further_lem e
      go false e = went_on
