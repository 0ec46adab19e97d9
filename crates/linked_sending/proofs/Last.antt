-- The last fragment of a message: what the words then stand for. Assumes nothing.
use mathlib.Core.Path.{◌≡◌, refl, sym, ap, ap₂, ◌∙◌, subst}
use mathlib.Core.List.{List, ◌∷◌}
use Prim.Native.Nat.{ℕ, ◌-◌, ◌≤◌, ◌<◌}
use native.Mathlib.Omega.{arith}
use Rattle.queue_words.specs.Header.{options_at, totals_at}
use Rattle.queue_words.specs.Items.{item_at}
use Rattle.queue_words.specs.Known.{known_at, id_at}
use Rattle.queue_words.specs.Streams.{stream_at_words, put_stream_words}
use Rattle.queue_words.specs.declared.header.Totals.{Totals}
use Rattle.queue_words.specs.declared.items.Item.{Item}
use Rattle.queue_words.specs.declared.known.Known.{Known}
use Rattle.queue_words.specs.declared.streams.OutgoingStream.{OutgoingStream}
use Rattle.queue_words.specs.declared.streams.PauseState as words
use Rattle.queue_words.specs.declared.streams.PauseState.TheVariants.{NotPaused, Pending, Paused, Resetting}
use Rattle.queue_words.proofs.Laws
use Rattle.queue_model.specs.Types.{Stream}
use Rattle.queue_model.specs.Types as plain
use Rattle.queue_model.specs.Scheduler.{accept, set_bytes_remaining}
use Rattle.queue_model.specs.Streams.{put_stream, head_size, weight_of}
use Rattle.queue_model.specs.Produce.{end_pending, next_size}
use Rattle.stream_scheduler.specs.Link.{entry_at, model_scheduler}
use Rattle.stream_scheduler.specs.Rows.{weight_of_words}
use Rattle.stream_scheduler.specs.Anew.{accept_last_words}
use Rattle.queue_streams.specs.Waiting.{head_size_words, parameters_for}
use Rattle.message_chains.specs.Heads.{released, without_head}
use Rattle.message_chains.specs.Dropping.{end_pending_words}
use Rattle.queue_sending.specs.Fragment.{next_first, waiting_on, finished}
use Rattle.queue_sending.specs.Numbers.{numbered_item, numbered_stream}
use Rattle.queue_state.specs.Chains.{Linked, count, each}
use Rattle.queue_state.specs.Model.{next_of, item_in_words, pause_of, stream_of, row_at, streams_in}
use Rattle.queue_state.specs.Good.{Shape}
use Rattle.queue_state.proofs.Chains.{each_frame}
use Rattle.queue_state.proofs.Frames.{row_below, row_fits}
use Rattle.queue_state.proofs.Singles.{Alike, alike_untouched}
use Rattle.queue_state.proofs.Heads.{HeadLeft, head_left, head_linked}
use Rattle.queue_state.proofs.Rooms.{AllKnown, Let, last_known, head_is, weight_is}
use Rattle.queue_state.proofs.Alikes.{alike_same}
use Rattle.linked_sending.proofs.Looking.{Choice}
use Rattle.linked_sending.proofs.Numbering.{renumbered, stream_fits}

-- ---- states

-- "When a pending stream's message ends or is discarded, it is paused."
pub end_state : (p : words.PauseState) → pause_of (end_pending_words p) ≡ end_pending (pause_of p)
unfolding end_pending_words end_pending pause_of
end_state NotPaused = refl
end_state Pending = refl
end_state Paused = refl
end_state Resetting = refl

none_behind : (ws : List ℕ) → head_size_words ws 1024 ≡ 0
unfolding head_size_words
none_behind ws = refl

-- "a message behind it, unless the stream is now paused, then makes the stream begin anew"
behind_is : (ws : List ℕ) (p : words.PauseState) (next : ℕ) (is : List plain.Item) → head_size_words ws next ≡ head_size is → head_size_words ws (next_first p next) ≡ next_size (pause_of p) is
unfolding next_first next_size pause_of
behind_is ws NotPaused next is e = e
behind_is ws Pending next is e = e
behind_is ws Paused next is e = none_behind ws
behind_is ws Resetting next is e = e

-- ---- the words

pub record Finished (ws st : List ℕ) (g : Shape ws st) (at : ℕ) (c : Choice ws st g at) (n : ℕ) (us : List ℕ) : Type 0 where
  pub shape : Shape us st
  pub options : options_at us ≡ options_at ws
  pub total : (totals_at us).total ≡ (totals_at ws).total - n
  pub interleaving : (totals_at us).interleaving ≡ (totals_at ws).interleaving
  pub next_id : (totals_at us).next_message_id ≡ (totals_at ws).next_message_id
  pub scheduler : (w : Stream) → w.priority ≡ (stream_at_words ws (row_at ws c.pos)).priority
      → model_scheduler us ≡ set_bytes_remaining (id_at ws c.pos) (next_size (pause_of (end_pending_words (stream_at_words ws (row_at ws c.pos)).pause_state)) (each (item_in_words ws st) c.rest)) (weight_of (totals_at ws).interleaving w) (accept (entry_at ws at) n (model_scheduler ws))
  pub streams : streams_in us st ≡ put_stream (stream_of (id_at ws c.pos) (without_head (numbered_stream (stream_at_words ws (row_at ws c.pos)) (item_at ws c.first)) (end_pending_words (stream_at_words ws (row_at ws c.pos)).pause_state) (next_of ws c.first) n) (each (item_in_words ws st) c.rest)) (streams_in ws st)

module _ (ws st : List ℕ) (g : Shape ws st) (known : AllKnown ws st) (at : ℕ) (c : Choice ws st g at) (n : ℕ) (all : (entry_at ws at).bytes_remaining ≤ n) where
  abbrev s : OutgoingStream
  s = stream_at_words ws (row_at ws c.pos)

  abbrev m : Item
  m = item_at ws c.first

  abbrev s' : OutgoingStream
  s' = numbered_stream (stream_at_words ws (row_at ws c.pos)) (item_at ws c.first)

  abbrev m' : Item
  m' = numbered_item (stream_at_words ws (row_at ws c.pos)) (item_at ws c.first)

  abbrev id : ℕ
  id = (entry_at ws at).stream_id

  below : c.pos < 256
  below = omega (arith, c.known, g.known_fits)

  -- what is behind the message
  linked : Linked (next_of ws) (next_of ws c.first) c.rest
  linked = (head_linked ws st g c.pos c.known c.first c.rest c.places_are).2

  rest_fits : (y : ℕ) → 1 ≤ count y c.rest → y < 1024
  rest_fits y h =
      let k : 1 ≤ count y (c.first ∷ c.rest) = omega arith in
      row_fits g.q g.fr y c.pos g.split below (rw c.places_are k)

  -- the stream waits with it, or not
  abbrev first2 : ℕ
  first2 = next_first (end_pending_words s'.pause_state) m'.next

  size2 : head_size_words ws first2 ≡ next_size (pause_of (end_pending_words s.pause_state)) (each (item_in_words ws st) c.rest)
  size2 =
      let h : head_size_words ws m'.next ≡ head_size (each (item_in_words ws st) c.rest) = rw (renumbered s m).next_same (head_is ws st g (next_of ws c.first) c.rest linked) in
      rw (renumbered s m).state_same (behind_is ws (end_pending_words s.pause_state) m'.next (each (item_in_words ws st) c.rest) h)

  -- the scheduler
  abbrev u2 : List ℕ
  u2 = (accept_last_words ws at id n (head_size_words ws first2) (parameters_for (totals_at ws).interleaving s'.priority)).next

  two : Let ws st g u2 (set_bytes_remaining id (head_size_words ws first2) (weight_of_words (parameters_for (totals_at ws).interleaving s'.priority)) (accept (entry_at ws at) n (model_scheduler ws)))
  two = last_known ws st g known at n (head_size_words ws first2) (totals_at ws).interleaving s'.priority c.listed all (rw (renumbered s m).priority_same (Laws.stream_at_fits ws (row_at ws c.pos)).priority_fits)

  abbrev g2 : Shape u2 st
  g2 = two.unmoved.shape

  alike2 : Alike ws u2
  alike2 = alike_untouched ws u2 (two.unmoved.shape.long ∙ sym g.long) two.untouched

  -- the message leaves
  places2 : g2.q c.pos ≡ c.first ∷ c.rest
  places2 = two.unmoved.q_is c.pos ∙ c.places_are

  known2 : c.pos < (totals_at u2).known
  known2 = omega (arith, c.known, alike2.known)

  table2 : known_at u2 c.pos ≡ known_at ws c.pos
  table2 = alike2.table c.pos below

  row2 : row_at u2 c.pos ≡ row_at ws c.pos
  row2 = ap (λ (k : Known). k.place) table2

  in_rows : row_at ws c.pos < 256
  in_rows = row_below ws st g c.pos c.known

  last2 : s'.last ≡ (stream_at_words u2 (row_at u2 c.pos)).last
  last2 = (renumbered s m).last_same ∙ sym (ap (λ (y : OutgoingStream). y.last) (ap (stream_at_words u2) row2 ∙ alike2.rows (row_at ws c.pos) in_rows))

  next2 : next_of u2 c.first ≡ next_of ws c.first
  next2 = ap (λ (y : Item). y.next) (alike2.items c.first c.first_fits)

  abbrev s3 : OutgoingStream
  s3 = without_head s' (end_pending_words s.pause_state) (next_of u2 c.first) n

  abbrev u3 : List ℕ
  u3 = put_stream_words (released u2 c.first n) (row_at u2 c.pos) s3

  three : HeadLeft u2 st g2 c.pos c.first c.rest s3 n u3
  three = head_left u2 st g2 c.pos known2 c.first c.rest places2 s' (stream_fits s m (Laws.stream_at_fits ws (row_at ws c.pos))) last2 (end_pending_words s.pause_state) n

  items2 : each (item_in_words u2 st) c.rest ≡ each (item_in_words ws st) c.rest
  items2 = each_frame (item_in_words ws st) (item_in_words u2 st) c.rest (λ y h. (alike_same ws st u2 alike2 y (rest_fits y h)).item_same)

  streams3 : streams_in u3 st ≡ put_stream (stream_of (id_at ws c.pos) (without_head s' (end_pending_words s.pause_state) (next_of ws c.first) n) (each (item_in_words ws st) c.rest)) (streams_in ws st)
  streams3 =
      let d : id_at u2 c.pos ≡ id_at ws c.pos = ap (λ (k : Known). k.id.0) table2 in
      let e : stream_of (id_at u2 c.pos) s3 (each (item_in_words u2 st) c.rest) ≡ stream_of (id_at ws c.pos) (without_head s' (end_pending_words s.pause_state) (next_of ws c.first) n) (each (item_in_words ws st) c.rest) = rw (d, next2, items2) in
      three.streams ∙ ap (λ (y : Stream). put_stream y (streams_in u2 st)) e
      ∙ ap (put_stream (stream_of (id_at ws c.pos) (without_head s' (end_pending_words s.pause_state) (next_of ws c.first) n) (each (item_in_words ws st) c.rest))) two.unmoved.streams

  totals2 : totals_at u2 ≡ totals_at ws
  totals2 = two.untouched.same_totals

  scheduler3 : (w : Stream) → w.priority ≡ s.priority → model_scheduler u3 ≡ set_bytes_remaining (id_at ws c.pos) (next_size (pause_of (end_pending_words s.pause_state)) (each (item_in_words ws st) c.rest)) (weight_of (totals_at ws).interleaving w) (accept (entry_at ws at) n (model_scheduler ws))
  scheduler3 w e =
      let f : weight_of_words (parameters_for (totals_at ws).interleaving s'.priority) ≡ weight_of (totals_at ws).interleaving w = weight_is (totals_at ws).interleaving s'.priority w (e ∙ sym (renumbered s m).priority_same) in
      let k : set_bytes_remaining id (head_size_words ws first2) (weight_of_words (parameters_for (totals_at ws).interleaving s'.priority)) (accept (entry_at ws at) n (model_scheduler ws)) ≡ set_bytes_remaining (id_at ws c.pos) (next_size (pause_of (end_pending_words s.pause_state)) (each (item_in_words ws st) c.rest)) (weight_of (totals_at ws).interleaving w) (accept (entry_at ws at) n (model_scheduler ws)) = rw (c.id_is, size2, f) in
      three.schedules ∙ two.scheduler ∙ k

  are : u3 ≡ finished ws at id (row_at ws c.pos) s' m' n
  unfolding finished waiting_on
  are =
      let e : s'.first ≡ c.first = (renumbered s m).first_same ∙ c.first_is in
      let f : m'.next ≡ next_of u2 c.first = (renumbered s m).next_same ∙ sym next2 in
      ap (λ (r : ℕ). put_stream_words (released u2 c.first n) r s3) row2
      ∙ ap₂ (λ (x : ℕ) (y : OutgoingStream). put_stream_words (released u2 x n) (row_at ws c.pos) y) (sym e) (ap₂ (λ (x : words.PauseState) (y : ℕ). without_head s' x y n) (ap end_pending_words (sym (renumbered s m).state_same)) (sym f))

  pub the_finished : Finished ws st g at c n (finished ws at (entry_at ws at).stream_id (row_at ws c.pos) (numbered_stream (stream_at_words ws (row_at ws c.pos)) (item_at ws c.first)) (numbered_item (stream_at_words ws (row_at ws c.pos)) (item_at ws c.first)) n)
  the_finished = subst (Finished ws st g at c n) are (record {
    shape = three.after.shape;
    options = three.options ∙ two.untouched.same_options;
    total = three.total ∙ ap (λ (t : Totals). t.total - n) totals2;
    interleaving = three.interleaving ∙ ap (λ (t : Totals). t.interleaving) totals2;
    next_id = three.next_id ∙ ap (λ (t : Totals). t.next_message_id) totals2;
    scheduler = scheduler3;
    streams = streams3;
  })
