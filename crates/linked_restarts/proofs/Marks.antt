-- Asking for the ready ids is the model's. Assumes nothing.
use mathlib.Core.Path.{◌≡◌, refl, sym, ap, ◌∙◌, subst}
use mathlib.Core.Bool.{Bool, true, false}
use mathlib.Core.List.{List, map}
use Prim.Native.Nat.{ℕ, zero, suc, ◌+◌, ◌≤◌, ◌<◌}
use native.Mathlib.Omega.{arith}
use borrow.Author.Tests.{le-ltb}
use lib.ListN.{take}
use lib.Seq.{take_at}
use Rattle.queue_words.specs.Flags.{pick}
use Rattle.queue_words.specs.Header.{options_at, totals_at}
use Rattle.queue_words.specs.Known.{id_at}
use Rattle.queue_words.specs.Streams.{is_paused_words, stream_at_words, put_stream_words, with_pause, FitsStream}
use Rattle.queue_words.specs.declared.header.Totals.{Totals}
use Rattle.queue_words.specs.declared.streams.OutgoingStream.{OutgoingStream}
use Rattle.queue_words.specs.declared.streams.PauseState.TheVariants.{Resetting}
use Rattle.queue_words.proofs.Laws
use Rattle.std.specs.Prelude.{if◌then◌else◌}
use Rattle.queue_model.specs.Types as plain
use Rattle.queue_model.specs.Types.{Stream, Scheduler, Queue, ids, resetting, model_with_pause, with_state}
use Rattle.queue_model.specs.Run as run
use Rattle.queue_model.specs.Reset.{is_paused, paused_ids, paused_to_resetting, ready_ids}
use Rattle.queue_model.specs.Ascending.{Ascending}
use Rattle.queue_model.specs.Calls
use Rattle.queue_model.proofs.Ready.{paused_ascending}
use Rattle.payload_store.proofs.Cases.{by_index}
use Rattle.stream_scheduler.specs.Link.{model_scheduler}
use Rattle.stream_scheduler.proofs.Link.{scheduler_same}
use Rattle.queue_streams.specs.Call.{Accepted}
use Rattle.queue_restarts.specs.Marking.{put_resetting}
use Rattle.queue_restarts.specs.Ready.{places_fit, all_places_fit, marked, marked_all, collected, readied, ready, count_of, ready_count}
use Rattle.queue_restarts.specs.ReadyStreams.{ReadyStreams}
use Rattle.queue_restarts.proofs.MarkLaws
use Rattle.queue_state.specs.Chains.{each}
use Rattle.queue_state.specs.Model.{item_in_words, pause_of, stream_of, row_at, stream_in, streams_in, model, options_of}
use Rattle.queue_state.specs.Good.{Shape, Good}
use Rattle.queue_state.specs.Promise.{shown, number_of}
use Rattle.queue_state.proofs.Frames.{stream_is, row_below}
use Rattle.queue_state.proofs.Singles.{Alike, model_is}
use Rattle.queue_state.proofs.Rooms.{AllKnown, all_known}
use Rattle.linked_restarts.specs.Ids.{ids_of, ready_of, Readies}
use Rattle.linked_restarts.proofs.Sweeps.{Turn, Swept, fold_to, sweep, swept_streams}
use Rattle.linked_restarts.proofs.Turns.{paused_is, turn_alike, no_turn, stored_turn}
use Rattle.linked_restarts.proofs.Closings.{good_after}
use Rattle.linked_restarts.proofs.Collects.{collected_is}
use Rattle.queue_model.proofs.Arrivals.Ledger.{ready_id}

-- ---- a paused stream marked

marked_by : (s : Stream) (b : Bool) → is_paused s ≡ b → paused_to_resetting s ≡ (if b then model_with_pause resetting s else s)
unfolding paused_to_resetting
marked_by s b e = rw e

state_is : (id : ℕ) (s : OutgoingStream) (is : List plain.Item) → stream_of id (with_pause s Resetting) is ≡ model_with_pause resetting (stream_of id s is)
unfolding pause_of
state_is id s is = refl

-- The scheduler stays as it is.
abbrev still : Stream → Scheduler → Scheduler
still s sc = sc

fold_still : (f : ℕ → Stream) (n : ℕ) (sc : Scheduler) → fold_to still f n sc ≡ sc
unfolding fold_to
fold_still f zero sc = refl
fold_still f (suc n) sc = fold_still f n sc

module _ (us st : List ℕ) (g : Shape us st) (a : AllKnown us st) (i : ℕ) (hi : i < (totals_at us).known) where
  abbrev row : OutgoingStream
  row = stream_at_words us (row_at us i)

  here : stream_in us st i ≡ stream_of (id_at us i) row (each (item_in_words us st) (g.q i))
  here = stream_is us st g i hi

  state : is_paused (stream_in us st i) ≡ is_paused_words row.pause_state
  state = ap is_paused here ∙ paused_is (id_at us i) row (each (item_in_words us st) (g.q i))

  fits : FitsStream (with_pause row Resetting)
  fits =
      let f = Laws.stream_at_fits us (row_at us i) in
      record { priority_fits = f.priority_fits; ssn_fits = f.ssn_fits; unordered_mid_fits = f.unordered_mid_fits; ordered_mid_fits = f.ordered_mid_fits }

  -- the row stored whole with the other state
  abbrev vs : List ℕ
  vs = put_stream_words us (row_at us i) (with_pause row Resetting)

  below : row_at us i < 256
  below = row_below us st g i hi

  row_alike : (j : ℕ) → stream_at_words (put_resetting us (row_at us i)) j ≡ stream_at_words vs j
  row_alike j = by_index (row_at us i) j
      (λ e. subst (λ (k : ℕ). stream_at_words (put_resetting us (row_at us i)) k ≡ stream_at_words vs k) e (MarkLaws.stream_put us (row_at us i) g.long below ∙ sym (Laws.stream_at_put us (row_at us i) (with_pause row Resetting) g.long below fits)))
      (λ ne. MarkLaws.stream_put_other us (row_at us i) j ne ∙ sym (Laws.stream_at_put_other us (row_at us i) (with_pause row Resetting) j ne))

  totals_alike : totals_at (put_resetting us (row_at us i)) ≡ totals_at vs
  totals_alike = MarkLaws.totals_put us (row_at us i) ∙ sym (Laws.totals_put_stream us (row_at us i) (with_pause row Resetting))

  alike : Alike vs (put_resetting us (row_at us i))
  alike = record {
    long = MarkLaws.whole_put us (row_at us i) ∙ sym (Laws.whole_put_stream us (row_at us i) (with_pause row Resetting));
    known = ap (λ (t : Totals). t.known) totals_alike;
    waiting = ap (λ (t : Totals). t.waiting) totals_alike;
    free = ap (λ (t : Totals). t.free) totals_alike;
    used = ap (λ (t : Totals). t.used) totals_alike;
    gaps = ap (λ (t : Totals). t.gaps) totals_alike;
    table = λ j h. MarkLaws.known_put us (row_at us i) j h ∙ sym (Laws.known_put_stream us (row_at us i) (with_pause row Resetting) j h);
    rows = λ j h. row_alike j;
    items = λ j h. MarkLaws.item_put us (row_at us i) j below ∙ sym (Laws.item_put_stream us (row_at us i) (with_pause row Resetting) j below);
  }

  stored : is_paused (stream_in us st i) ≡ true → Turn paused_to_resetting still us st i vs
  stored e =
      stored_turn us st g a i hi paused_to_resetting still (with_pause row Resetting) fits refl refl
      (state_is (id_at us i) row (each (item_in_words us st) (g.q i)) ∙ ap (model_with_pause resetting) (sym here) ∙ sym (marked_by (stream_in us st i) true e)) refl

  by_state : (b : Bool) → is_paused_words row.pause_state ≡ b → Turn paused_to_resetting still us st i (pick b (put_resetting us (row_at us i)) us)
  by_state true e =
      let t = stored (state ∙ e) in
      let o = MarkLaws.options_put us (row_at us i) in
      let sc = scheduler_same us (put_resetting us (row_at us i)) (MarkLaws.whole_put us (row_at us i)) o (MarkLaws.scheduler_put us (row_at us i)) (λ j. MarkLaws.active_put us (row_at us i) j below) (MarkLaws.leasts_put us (row_at us i)) g.schedules in
      turn_alike paused_to_resetting still us st i vs (put_resetting us (row_at us i)) t alike totals_alike (o ∙ sym t.options) sc.0 (sc.1 ∙ sym t.scheduler)
  by_state false e = no_turn us st g a i hi paused_to_resetting still (marked_by (stream_in us st i) false (state ∙ e)) refl

  mark_turn : Turn paused_to_resetting still us st i (marked us (row_at us i))
  unfolding marked
  mark_turn =
      let r = below in
      rw (le-ltb 255 (row_at us i) (omega arith)) (by_state (is_paused_words row.pause_state) refl)

-- ---- the call

all_zero : (ws : List ℕ) → marked_all ws 0 ≡ ws
unfolding marked_all
all_zero ws = refl

all_suc : (ws : List ℕ) (i : ℕ) → marked_all ws (suc i) ≡ marked (marked_all ws i) (row_at (marked_all ws i) i)
unfolding marked_all
all_suc ws i = refl

fit_from : (ws : List ℕ) (i m : ℕ) → ((j : ℕ) → j < i + m → row_at ws j ≤ 255) → places_fit ws i m ≡ true
unfolding places_fit
fit_from ws i zero h = refl
fit_from ws i (suc m) h = rw (le-ltb 255 (row_at ws i) (h i (omega arith))) (fit_from ws (suc i) m (λ j l. h j (omega arith)))

ready_next : (q : Queue) → (ready_ids q).next ≡ with_state q q.total (map paused_to_resetting q.streams) q.scheduler
unfolding ready_ids
ready_next q = refl

ready_answer : (q : Queue) → (ready_ids q).outcome.answer ≡ ids (paused_ids q.streams)
unfolding ready_ids
ready_answer q = refl

ready_is : (q : Queue) → run.step run.ready_ids q ≡ ready_ids q
unfolding run.step
ready_is q = refl

module _ (ws st : List ℕ) (g : Good ws st) where
  abbrev done_words : List ℕ
  done_words = marked_all ws (totals_at ws).known

  places_fit_lem : all_places_fit ws (totals_at ws).known ≡ true
  unfolding all_places_fit
  places_fit_lem =
      rw (le-ltb 256 (totals_at ws).known g.shape.known_fits)
      (fit_from ws 0 (totals_at ws).known (λ j h. let r = row_below ws st g.shape j (omega arith) in omega arith))

  turn : (i : ℕ) → i < (totals_at ws).known → (h : Shape (marked_all ws i) st) → AllKnown (marked_all ws i) st → totals_at (marked_all ws i) ≡ totals_at ws
      → stream_in (marked_all ws i) st i ≡ stream_in ws st i → Turn paused_to_resetting still (marked_all ws i) st i (marked_all ws (suc i))
  turn i hi h a t e =
      let hi' : i < (totals_at (marked_all ws i)).known = subst (λ (x : Totals). i < x.known) (sym t) hi in
      rw (all_suc ws i) (mark_turn (marked_all ws i) st h a i hi')

  swept : Swept paused_to_resetting still ws st (totals_at ws).known done_words
  swept = sweep paused_to_resetting still ready_id ws st g.shape (all_known ws st g.well) (λ i. marked_all ws i) (all_zero ws) turn (totals_at ws).known (omega arith)

  after_streams : streams_in done_words st ≡ map paused_to_resetting (streams_in ws st)
  after_streams = swept_streams paused_to_resetting still ready_id ws st g.shape (all_known ws st g.well) (λ i. marked_all ws i) (all_zero ws) turn

  marked_model : model done_words st ≡ (run.step run.ready_ids (model ws st)).next
  unfolding model
  marked_model =
      model_is done_words st (options_of (options_at ws)) (totals_at ws).interleaving (totals_at ws).total (totals_at ws).next_message_id.0 (map paused_to_resetting (streams_in ws st)) (model_scheduler ws)
      (ap options_of swept.options) (ap (λ (t : Totals). t.interleaving) swept.totals) (ap (λ (t : Totals). t.total) swept.totals) (ap (λ (t : Totals). t.next_message_id.0) swept.totals) after_streams
      (swept.scheduler ∙ fold_still (stream_in ws st) (totals_at ws).known (model_scheduler ws))
      ∙ sym (ap (λ x. x.next) (ready_is (model ws st)) ∙ ready_next (model ws st))

  model_ids : paused_ids (streams_in ws st) ≡ paused_ids (model ws st).streams
  unfolding model
  model_ids = refl

  pub accepted : ready ws ≡ readied (collected ws (totals_at ws).known) done_words
  unfolding ready
  accepted = rw places_fit_lem

  -- "in ascending order": the ids are the first `count` of the array.
  taken : take (collected ws (totals_at ws).known).count (collected ws (totals_at ws).known).ids ≡ paused_ids (model ws st).streams
  taken = ap (λ (x : ReadyStreams). take x.count x.ids) (collected_is ws st g.shape) ∙ take_at (paused_ids (streams_in ws st)) _ _ refl ∙ model_ids

  pub ready_link : Readies ws st (ready ws).answer (ready ws).next st
  ready_link =
      let e = ap (λ x. x.outcome.answer) (ready_is (model ws st)) ∙ ready_answer (model ws st) in
      rw accepted (record {
        good = good_after run.ready_ids ws st done_words tt g swept.shape swept.options marked_model;
        next = marked_model;
        answer = collected_is ws st g.shape ∙ ap (ids_of (Accepted 0)) model_ids ∙ sym (ap ready_of e);
        ascending = subst Ascending (sym taken) (paused_ascending (model ws st).streams g.well.rising);
      })

  -- How many ids are ready.
  pub count_link : ready_count ws ≡ number_of (shown run.ask_ready_count ws st).answer
  unfolding ready_count run.step Calls.ready_count
  count_link =
      let e = ap (λ x. x.outcome.answer) (ready_is (model ws st)) ∙ ready_answer (model ws st) in
      ap (λ (r : ReadyStreams). count_of r.answer r.count) (ready_link.answer ∙ ap ready_of e)
