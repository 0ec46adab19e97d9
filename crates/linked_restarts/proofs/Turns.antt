-- One turn: a known stream's row stored, the stream let wait, both, or neither. Assumes nothing.
use mathlib.Core.Path.{◌≡◌, refl, sym, ap, ◌∙◌, subst}
use mathlib.Core.Bool.{Bool, true, false}
use mathlib.Core.List.{List, [], ◌∷◌}
use mathlib.Core.Option.{some}
use Prim.Native.Nat.{ℕ, ◌<◌}
use native.Mathlib.Omega.{arith}
use borrow.Author.Tests.{lt-ltb, le-ltb}
use lib.Dec.{ltb}
use Rattle.queue_words.specs.Header.{options_at, totals_at}
use Rattle.queue_words.specs.Known.{id_at}
use Rattle.queue_words.specs.Streams.{is_paused_words, is_resetting_words, stream_at_words, put_stream_words, FitsStream}
use Rattle.queue_words.specs.declared.streams.OutgoingStream.{OutgoingStream}
use Rattle.queue_words.specs.declared.streams.PauseState.{PauseState}
use Rattle.queue_words.specs.declared.streams.PauseState.TheVariants.{NotPaused, Pending, Paused, Resetting}
use Rattle.queue_words.proofs.Laws
use Rattle.queue_model.specs.Types as plain
use Rattle.queue_model.specs.Types.{Stream, Scheduler}
use Rattle.queue_model.specs.Streams.{find_stream, put_stream, stream_key, head_size, weight_of, reschedule, has_items, some_items}
use Rattle.queue_model.specs.Reset.{is_paused, is_resetting}
use Rattle.queue_model.proofs.Scheduler.{reschedule_of}
use Rattle.queue_model.proofs.Table.{put_found}
use Rattle.stream_scheduler.specs.Link.{GoodScheduler, model_scheduler}
use Rattle.queue_streams.specs.Waiting.{head_size_words, rescheduled}
use Rattle.queue_state.specs.Chains.{Linked, each}
use Rattle.queue_state.specs.Model.{next_of, item_in_words, pause_of, stream_of, row_at, stream_in, streams_in}
use Rattle.queue_state.specs.Good.{Shape}
use Rattle.queue_state.proofs.Frames.{stream_is, row_below, stream_key_in}
use Rattle.queue_state.proofs.Steps.{After}
use Rattle.queue_state.proofs.Singles.{Alike, unmoved, shape_row, row_streams}
use Rattle.stream_scheduler.proofs.Link.{scheduler_same}
use Rattle.queue_state.proofs.Looks.{found_at}
use Rattle.queue_state.proofs.Rooms.{AllKnown, KnownTo, Listing, known_put, known_position, listing_streams, streams_rise, Let, head_is, reschedule_sized, reschedule_known}
use Rattle.linked_restarts.proofs.Sweeps.{Turn}

-- ---- what a row says of the model's stream

pub paused_is : (id : ℕ) (s : OutgoingStream) (is : List plain.Item) → is_paused (stream_of id s is) ≡ is_paused_words s.pause_state
unfolding is_paused pause_of
paused_is id s is = by s.pause_state refl
  where
    by : (p : PauseState) → s.pause_state ≡ p → is_paused (stream_of id s is) ≡ is_paused_words p
    by NotPaused e = rw e
    by Pending e = rw e
    by Paused e = rw e
    by Resetting e = rw e

pub resetting_is : (id : ℕ) (s : OutgoingStream) (is : List plain.Item) → is_resetting (stream_of id s is) ≡ is_resetting_words s.pause_state
unfolding is_resetting pause_of
resetting_is id s is = by s.pause_state refl
  where
    by : (p : PauseState) → s.pause_state ≡ p → is_resetting (stream_of id s is) ≡ is_resetting_words p
    by NotPaused e = rw e
    by Pending e = rw e
    by Paused e = rw e
    by Resetting e = rw e

-- A stream has messages exactly where its first place is one of the table.
pub first_is : (ws st : List ℕ) (id first : ℕ) (s : OutgoingStream) (ps : List ℕ) → Linked (next_of ws) first ps → has_items (stream_of id s (each (item_in_words ws st) ps)) ≡ ltb first 1024
unfolding has_items some_items
first_is ws st id first s [] l = rw (le-ltb first 1024 (omega arith))
first_is ws st id first s (x ∷ xs) l = rw (lt-ltb first 1024 (omega (arith, l.0, l.1)))

-- Letting wait reads a stream's id, messages and priority.
pub wait_alike : (il : Bool) (s s' : Stream) (sc : Scheduler) → s'.id ≡ s.id → s'.items ≡ s.items → s'.priority ≡ s.priority → reschedule il s' sc ≡ reschedule il s sc
wait_alike il s s' sc a b c = reschedule_of il s' sc ∙ rw (weight il c, a, b) (sym (reschedule_of il s sc))
  where
    weight : (il : Bool) → s'.priority ≡ s.priority → weight_of il s' ≡ weight_of il s
    weight true e = unfold weight_of in rw e
    weight false e = unfold weight_of in refl

-- Words that read alike after a turn are as good.
pub turn_alike : (F : Stream → Stream) (R : Stream → Scheduler → Scheduler) (us st : List ℕ) (i : ℕ) (vs ws : List ℕ) → Turn F R us st i vs → Alike vs ws → totals_at ws ≡ totals_at vs → options_at ws ≡ options_at vs
    → GoodScheduler ws → model_scheduler ws ≡ model_scheduler vs → Turn F R us st i ws
turn_alike F R us st i vs ws t a et eo sc em =
    let u = unmoved vs st t.shape ws a sc in
    record {
      shape = u.shape;
      totals = et ∙ t.totals;
      options = eo ∙ t.options;
      streams = u.streams ∙ t.streams;
      scheduler = em ∙ t.scheduler;
      known = subst (λ (ss : List Stream). Listing ss (model_scheduler ws).active) (sym u.streams) (subst (λ (x : Scheduler). Listing (streams_in vs st) x.active) (sym em) t.known);
    }

module _ (us st : List ℕ) (g : Shape us st) (a : AllKnown us st) (i : ℕ) (hi : i < (totals_at us).known) (F : Stream → Stream) (R : Stream → Scheduler → Scheduler) where
  -- A stream put that is there already.
  put_same : F (stream_in us st i) ≡ stream_in us st i → streams_in us st ≡ put_stream (F (stream_in us st i)) (streams_in us st)
  put_same e =
      let k : stream_key (stream_in us st i) ≡ id_at us i = stream_key_in us st i in
      let f : find_stream (stream_key (stream_in us st i)) (streams_in us st) ≡ some (stream_in us st i) = subst (λ n. find_stream n (streams_in us st) ≡ some (stream_in us st i)) (sym k) (found_at us st g i hi) in
      sym (ap (λ (s : Stream). put_stream s (streams_in us st)) e ∙ put_found stream_key (stream_in us st i) (streams_in us st) (streams_rise us st g) f)

  -- Nothing is done.
  pub no_turn : F (stream_in us st i) ≡ stream_in us st i → R (stream_in us st i) (model_scheduler us) ≡ model_scheduler us → Turn F R us st i us
  no_turn e r = record { shape = g; totals = refl; options = refl; streams = put_same e; scheduler = sym r; known = a }

  -- The stream is let wait.
  pub wait_turn : (il : Bool) → F (stream_in us st i) ≡ stream_in us st i → R (stream_in us st i) (model_scheduler us) ≡ reschedule il (stream_in us st i) (model_scheduler us)
      → Turn F R us st i (rescheduled us il (id_at us i) (stream_at_words us (row_at us i)).first (stream_at_words us (row_at us i)).priority)
  wait_turn il e r =
      let s : OutgoingStream = stream_at_words us (row_at us i) in
      let S : Stream = stream_of (id_at us i) s (each (item_in_words us st) (g.q i)) in
      let l : Let us st g (rescheduled us il (id_at us i) s.first s.priority) (reschedule il S (model_scheduler us)) =
      reschedule_known us st g a il S s.first (g.q i) (known_position us st g i hi) (Laws.stream_at_fits us (row_at us i)).priority_fits (g.rows i hi).linked refl in
      record {
        shape = l.unmoved.shape;
        totals = l.untouched.same_totals;
        options = l.untouched.same_options;
        streams = l.unmoved.streams ∙ put_same e;
        scheduler = l.scheduler ∙ ap (λ (x : Stream). reschedule il x (model_scheduler us)) (sym (stream_is us st g i hi)) ∙ sym r;
        known = l.known;
      }

  -- Its row is stored.
  module _ (s : OutgoingStream) (fits : FitsStream s) (first_same : s.first ≡ (stream_at_words us (row_at us i)).first) (last_same : s.last ≡ (stream_at_words us (row_at us i)).last)
      (New-is : stream_of (id_at us i) s (each (item_in_words us st) (g.q i)) ≡ F (stream_in us st i)) where
    abbrev vs : List ℕ
    vs = put_stream_words us (row_at us i) s

    after : After us st g i vs st (g.q i) g.fr
    after = shape_row us st g i hi s fits first_same last_same

    pub stored_streams : streams_in vs st ≡ put_stream (F (stream_in us st i)) (streams_in us st)
    stored_streams = row_streams us st g i hi s fits first_same last_same ∙ ap (λ (x : Stream). put_stream x (streams_in us st)) New-is

    pub stored_scheduler : model_scheduler vs ≡ model_scheduler us
    stored_scheduler = (scheduler_same us vs (Laws.whole_put_stream us (row_at us i) s) (Laws.options_put_stream us (row_at us i) s) (Laws.scheduler_put_stream us (row_at us i) s) (λ j. Laws.active_put_stream us (row_at us i) s j (row_below us st g i hi)) (Laws.leasts_put_stream us (row_at us i) s) g.schedules).1

    pub stored_known : AllKnown vs st
    stored_known =
        subst (λ (ss : List Stream). Listing ss (model_scheduler vs).active) (sym stored_streams)
        (subst (λ (sc : Scheduler). Listing (put_stream (F (stream_in us st i)) (streams_in us st)) sc.active) (sym stored_scheduler)
        (listing_streams (streams_in us st) (put_stream (F (stream_in us st i)) (streams_in us st)) (model_scheduler us).active (known_put (F (stream_in us st i)) (streams_in us st)) a))

    pub stored_turn : R (stream_in us st i) (model_scheduler us) ≡ model_scheduler us → Turn F R us st i vs
    stored_turn r = record {
      shape = after.shape;
      totals = Laws.totals_put_stream us (row_at us i) s;
      options = Laws.options_put_stream us (row_at us i) s;
      streams = stored_streams;
      scheduler = stored_scheduler ∙ sym r;
      known = stored_known;
    }

    stored_size : head_size_words vs s.first ≡ head_size (each (item_in_words us st) (g.q i))
    stored_size = same_head ∙ head_is us st g s.first (g.q i) (subst (λ n. Linked (next_of us) n (g.q i)) (sym first_same) (g.rows i hi).linked)
      where
        same_head : head_size_words vs s.first ≡ head_size_words us s.first
        same_head = unfold head_size_words in rw (Laws.item_put_stream us (row_at us i) s s.first (row_below us st g i hi))

    -- And then it is let wait.
    pub stored_wait : (il : Bool) → R (stream_in us st i) (model_scheduler us) ≡ reschedule il (F (stream_in us st i)) (model_scheduler us)
        → Turn F R us st i (rescheduled vs il (id_at us i) s.first s.priority)
    stored_wait il r =
        let S : Stream = stream_of (id_at us i) s (each (item_in_words us st) (g.q i)) in
        let k : KnownTo (streams_in vs st) (id_at us i) = subst (λ (ss : List Stream). KnownTo ss (id_at us i)) (sym stored_streams) (known_put (F (stream_in us st i)) (streams_in us st) (id_at us i) (known_position us st g i hi)) in
        let l : Let vs st after.shape (rescheduled vs il (id_at us i) s.first s.priority) (reschedule il S (model_scheduler vs)) =
        reschedule_sized vs st after.shape stored_known il S s.first k fits.priority_fits stored_size in
        record {
          shape = l.unmoved.shape;
          totals = l.untouched.same_totals ∙ Laws.totals_put_stream us (row_at us i) s;
          options = l.untouched.same_options ∙ Laws.options_put_stream us (row_at us i) s;
          streams = l.unmoved.streams ∙ stored_streams;
          scheduler = l.scheduler ∙ ap (λ (x : Scheduler). reschedule il S x) stored_scheduler ∙ ap (λ (x : Stream). reschedule il x (model_scheduler us)) New-is ∙ sym r;
          known = l.known;
        }
