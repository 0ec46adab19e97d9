-- Switching interleaving is the model's. Assumes nothing.
use mathlib.Core.Path.{◌≡◌, refl, sym, ap, ◌∙◌, subst}
use mathlib.Core.Bool.{Bool, true, false}
use mathlib.Core.List.{List, [], map-id}
use Prim.Native.Nat.{ℕ, suc, ◌<◌}
use native.Mathlib.Omega.{arith}
use borrow.Author.Tests.{le-ltb}
use Rattle.queue_words.specs.Flags.{pick}
use Rattle.queue_words.specs.Header.{options_at, totals_at, put_totals}
use Rattle.queue_words.specs.Known.{known_at}
use Rattle.queue_words.specs.declared.header.Totals.{Totals}
use Rattle.queue_words.proofs.Laws
use Rattle.std.specs.Prelude.{if◌then◌else◌}
use Rattle.queue_model.specs.Logic.{same_bool}
use Rattle.queue_model.specs.Types.{Stream, Scheduler, Queue, done}
use Rattle.queue_model.specs.Run as run
use Rattle.queue_model.specs.Settings.{switched, set_interleaving}
use Rattle.queue_model.specs.Streams.{reschedule_each}
use Rattle.stream_scheduler.specs.Link.{model_scheduler}
use Rattle.queue_streams.specs.Settings.{called}
use Rattle.queue_streams.specs.Waiting.{room_for}
use Rattle.queue_streams.specs.Restart.{with_interleaving, switched_at, switched_all, alike, set_interleaving_words}
use Rattle.queue_streams.specs.Call.{Accepted, Refused}
use Rattle.queue_state.specs.Model.{row_at, stream_in, streams_in, model, options_of}
use Rattle.queue_state.specs.Good.{Shape, Good}
use Rattle.queue_state.specs.Promise.{Does}
use Rattle.queue_state.proofs.Frames.{row_below}
use Rattle.queue_state.proofs.Singles.{model_is, model_interleaving}
use Rattle.queue_state.proofs.Rooms.{AllKnown, all_known}
use Rattle.linked_restarts.proofs.Sweeps.{Turn, Swept, turned, each_tab, sweep, swept_streams}
use Rattle.linked_restarts.proofs.Tallies.{room_for_lem}
use Rattle.linked_restarts.proofs.Turns.{wait_turn}
use Rattle.linked_restarts.proofs.Begins.{Counts, begun, begun_totals, begun_known, begun_scheduler, begun_listing}
use Rattle.linked_restarts.proofs.Closings.{does_quietly}

-- Every stream is let wait, and none is changed.
abbrev kept : Stream → Stream
kept s = s

abbrev waited : Bool → Stream → Scheduler → Scheduler
waited il = turned il (λ s. true) (λ s. s)

switch_turn : (il : Bool) (us st : List ℕ) (g : Shape us st) → AllKnown us st → (i : ℕ) → i < (totals_at us).known → Turn kept (waited il) us st i (switched_at il us (known_at us i))
unfolding switched_at
switch_turn il us st g a i hi =
    let r : row_at us i < 256 = row_below us st g i hi in
    rw (le-ltb 255 (row_at us i) (omega arith)) (wait_turn us st g a i hi kept (waited il) il refl refl)

all_zero : (il : Bool) (ws : List ℕ) → switched_all il ws 0 ≡ ws
unfolding switched_all
all_zero il ws = refl

all_suc : (il : Bool) (ws : List ℕ) (i : ℕ) → switched_all il ws (suc i) ≡ switched_at il (switched_all il ws i) (known_at (switched_all il ws i) i)
unfolding switched_all
all_suc il ws i = refl

-- ---- the turns, from any words

module _ (il : Bool) (ws st : List ℕ) (g : Shape ws st) (a : AllKnown ws st) where
  turn : (i : ℕ) → i < (totals_at ws).known → (h : Shape (switched_all il ws i) st) → AllKnown (switched_all il ws i) st → totals_at (switched_all il ws i) ≡ totals_at ws
      → stream_in (switched_all il ws i) st i ≡ stream_in ws st i → Turn kept (waited il) (switched_all il ws i) st i (switched_all il ws (suc i))
  turn i hi h b t e =
      let hi' : i < (totals_at (switched_all il ws i)).known = subst (λ (x : Totals). i < x.known) (sym t) hi in
      rw (all_suc il ws i) (switch_turn il (switched_all il ws i) st h b i hi')

  swept : Swept kept (waited il) ws st (totals_at ws).known (switched_all il ws (totals_at ws).known)
  swept = sweep kept (waited il) (λ s. refl) ws st g a (λ i. switched_all il ws i) (all_zero il ws) turn (totals_at ws).known (omega arith)

  after_streams : streams_in (switched_all il ws (totals_at ws).known) st ≡ streams_in ws st
  after_streams = swept_streams kept (waited il) (λ s. refl) ws st g a (λ i. switched_all il ws i) (all_zero il ws) turn ∙ map-id (streams_in ws st)

  after_scheduler : model_scheduler (switched_all il ws (totals_at ws).known) ≡ reschedule_each il (λ s. true) (streams_in ws st) (model_scheduler ws)
  unfolding streams_in
  after_scheduler = swept.scheduler ∙ sym (each_tab il (λ s. true) (λ s. s) (stream_in ws st) (totals_at ws).known (model_scheduler ws))

-- ---- the call

alike_is : (b x : Bool) → alike b x ≡ same_bool b x
unfolding alike same_bool
alike_is true x = refl
alike_is false true = refl
alike_is false false = refl

set_next : (b : Bool) (q : Queue) (x : Bool) → same_bool b q.interleaving ≡ x → (set_interleaving b q).next ≡ (if x then q else switched b q)
unfolding set_interleaving
set_next b q x e = rw e

switched_is : (b : Bool) (q : Queue) → switched b q ≡ record { options = q.options; interleaving = b; total = q.total; next_message_id = q.next_message_id; streams = q.streams; scheduler = reschedule_each b (λ s. true) q.streams q.scheduler }
unfolding switched
switched_is b q = refl

set_is : (b : Bool) (q : Queue) → run.step (run.set_interleaving b) q ≡ set_interleaving b q
unfolding run.step
set_is b q = refl

set_answer : (b : Bool) (q : Queue) → (run.step (run.set_interleaving b) q).outcome.answer ≡ done
unfolding run.step set_interleaving
set_answer b q = refl

set_events : (b : Bool) (q : Queue) → (run.step (run.set_interleaving b) q).outcome.events ≡ []
unfolding run.step set_interleaving
set_events b q = refl

module _ (b : Bool) (ws st : List ℕ) (g : Good ws st) where
  -- The words with the choice stored.
  abbrev chosen : Totals
  chosen = with_interleaving (totals_at ws) b

  counts : Counts ws chosen
  counts = record { fits = record { message_id_fits = (Laws.totals_at_fits ws).message_id_fits }; known = refl; waiting = refl; free = refl; used = refl; gaps = refl }

  abbrev start : List ℕ
  start = put_totals ws chosen

  start_shape : Shape start st
  start_shape = (begun ws st g.shape chosen counts).shape

  start_known : AllKnown start st
  start_known = begun_listing ws st g.shape chosen counts (all_known ws st g.well)

  same_known : (totals_at start).known ≡ (totals_at ws).known
  same_known = begun_known ws st g.shape chosen counts

  done_words : Swept kept (waited b) start st (totals_at start).known (switched_all b start (totals_at start).known)
  done_words = swept b start st start_shape start_known

  switched_model : model (switched_all b start (totals_at start).known) st ≡ switched b (model ws st)
  unfolding model
  switched_model =
      let us : List ℕ = switched_all b start (totals_at start).known in
      let t : totals_at us ≡ chosen = done_words.totals ∙ begun_totals ws st g.shape chosen counts in
      let ss : streams_in start st ≡ streams_in ws st = (begun ws st g.shape chosen counts).streams in
      model_is us st (options_of (options_at ws)) b (totals_at ws).total (totals_at ws).next_message_id.0 (streams_in ws st) (reschedule_each b (λ s. true) (streams_in ws st) (model_scheduler ws))
      (ap options_of (done_words.options ∙ Laws.options_put_totals ws chosen)) (ap (λ (x : Totals). x.interleaving) t) (ap (λ (x : Totals). x.total) t) (ap (λ (x : Totals). x.next_message_id.0) t)
      (after_streams b start st start_shape start_known ∙ ss)
      (after_scheduler b start st start_shape start_known ∙ rw (ss, begun_scheduler ws st g.shape chosen counts))
      ∙ sym (switched_is b (model ws st))

  same_choice : (x : Bool) → same_bool b (totals_at ws).interleaving ≡ x → same_bool b (model ws st).interleaving ≡ x
  same_choice x e = ap (same_bool b) (model_interleaving ws st) ∙ e

  by_choice : (x : Bool) → same_bool b (totals_at ws).interleaving ≡ x → Does (run.set_interleaving b) ws st
      (pick x (called (Accepted 0) ws) (pick (room_for ws true) (called (Accepted 0) (switched_all b start (totals_at ws).known)) (called (Refused 16) ws))).answer
      (pick x (called (Accepted 0) ws) (pick (room_for ws true) (called (Accepted 0) (switched_all b start (totals_at ws).known)) (called (Refused 16) ws))).next st
  by_choice true e =
      does_quietly (run.set_interleaving b) ws st ws tt g g.shape refl (sym (ap (λ x. x.next) (set_is b (model ws st)) ∙ set_next b (model ws st) true (same_choice true e)))
      (set_answer b (model ws st)) (set_events b (model ws st))
  by_choice false e =
      let us : List ℕ = switched_all b start (totals_at start).known in
      let d : Does (run.set_interleaving b) ws st (Accepted 0) us st = does_quietly (run.set_interleaving b) ws st us tt g done_words.shape (done_words.options ∙ Laws.options_put_totals ws chosen)
      (switched_model ∙ sym (ap (λ x. x.next) (set_is b (model ws st)) ∙ set_next b (model ws st) false (same_choice false e))) (set_answer b (model ws st)) (set_events b (model ws st)) in
      rw (room_for_lem ws st g.shape (all_known ws st g.well) true) (subst (λ n. Does (run.set_interleaving b) ws st (Accepted 0) (switched_all b start n) st) same_known d)

pub switch_link : (b : Bool) (ws st : List ℕ) → Good ws st → Does (run.set_interleaving b) ws st (set_interleaving_words b ws).answer (set_interleaving_words b ws).next st
unfolding set_interleaving_words
switch_link b ws st g = rw (alike_is b (totals_at ws).interleaving) (by_choice b ws st g (same_bool b (totals_at ws).interleaving) refl)
