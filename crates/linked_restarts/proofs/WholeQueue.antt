-- The whole-queue reset is the model's. Assumes nothing.
use mathlib.Core.Path.{◌≡◌, refl, sym, ap, ap₂, ◌∙◌, subst}
use mathlib.Core.Bool.{Bool, true, false}
use mathlib.Core.List.{List, [], map}
use Prim.Native.Nat.{ℕ, suc, ◌+◌, ◌≤◌, ◌<◌}
use native.Mathlib.Omega.{arith}
use borrow.Author.Tests.{le-ltb}
use lib.Dec.{ltb}
use Rattle.queue_words.specs.Header.{options_at, totals_at, put_totals}
use Rattle.queue_words.specs.Known.{id_at}
use Rattle.queue_words.specs.declared.header.Totals.{Totals}
use Rattle.queue_words.proofs.Laws
use Rattle.queue_model.specs.Logic.{any}
use Rattle.queue_model.specs.Types.{Stream, Queue, Step, done, reply, with_state}
use Rattle.queue_model.specs.Run as run
use Rattle.queue_model.specs.Refusals.{first_refusal, refused_or, checked, max_word}
use Rattle.queue_model.specs.Reset.{reset_stream, all_put_back, put_back_overflows}
use Rattle.queue_model.specs.Reset as reset
use Rattle.queue_model.specs.Streams.{has_items, reschedule_each}
use Rattle.queue_model.proofs.PutBack.{no_overflow}
use Rattle.queue_model.proofs.Invariant.Well.{Well}
use Rattle.stream_scheduler.specs.Link.{model_scheduler}
use Rattle.queue_streams.specs.Settings.{called}
use Rattle.queue_streams.specs.Call.{Accepted}
use Rattle.queue_restarts.specs.Reset.{with_total, reset_at, reset_all, reset_queue}
use Rattle.queue_state.specs.Model.{row_at, stream_in, streams_in, model, options_of, tab}
use Rattle.queue_state.specs.Good.{Shape, Good}
use Rattle.queue_state.specs.Promise.{Does}
use Rattle.queue_state.proofs.Singles.{model_is}
use Rattle.queue_state.proofs.Rooms.{AllKnown, all_known}
use Rattle.queue_state.proofs.Tabs.{tab_map}
use Rattle.linked_restarts.proofs.Sweeps.{Turn, Swept, each_tab, sweep, swept_streams, tab_at}
use Rattle.linked_restarts.proofs.Tallies.{room_for_lem}
use Rattle.linked_restarts.proofs.Begins.{Counts, begun, begun_totals, begun_known, begun_scheduler, begun_listing}
use Rattle.linked_restarts.proofs.Backs.{back_at_words, within, well_total, counted, stored, sums_are}
use Rattle.linked_restarts.proofs.Wholes.{waited, reset_turn}
use Rattle.linked_restarts.proofs.Closings.{does_quietly}
use Rattle.queue_model.proofs.Arrivals.Ledger.{reset_id}

-- ---- the model's call

-- What it does once its check has passed.
abbrev whole : Queue → Step
whole q = reply done [] (with_state q (q.total + all_put_back q.streams) (map (reset_stream q.options.strict_restart) q.streams) (reschedule_each q.interleaving has_items (map (reset_stream q.options.strict_restart) q.streams) q.scheduler))

reset_passes : (q : Queue) → Well q → reset.reset q ≡ whole q
unfolding reset.reset checked first_refusal refused_or
reset_passes q w =
    let a : ltb max_word (q.total + all_put_back q.streams) ≡ false = le-ltb max_word (q.total + all_put_back q.streams) (omega (arith, well_total q w)) in
    let b : any put_back_overflows q.streams ≡ false = no_overflow q.streams (counted q w) (stored q w) in
    rw (a, b)

reset_is : (q : Queue) → run.step run.reset q ≡ reset.reset q
unfolding run.step
reset_is q = refl

-- ---- the turns, from any words whose amounts fit

all_zero : (strict il : Bool) (ws : List ℕ) → reset_all strict il ws 0 ≡ ws
unfolding reset_all
all_zero strict il ws = refl

all_suc : (strict il : Bool) (ws : List ℕ) (i : ℕ) → reset_all strict il ws (suc i) ≡ reset_at strict (reset_all strict il ws i) il (id_at (reset_all strict il ws i) i) (row_at (reset_all strict il ws i) i)
unfolding reset_all
all_suc strict il ws i = refl

module _ (strict il : Bool) (ws st : List ℕ) (g : Shape ws st) (a : AllKnown ws st) (small : (i : ℕ) → i < (totals_at ws).known → (stream_in ws st i).amount + back_at_words ws st i ≤ 2000000) where
  turn : (i : ℕ) → i < (totals_at ws).known → (h : Shape (reset_all strict il ws i) st) → AllKnown (reset_all strict il ws i) st → totals_at (reset_all strict il ws i) ≡ totals_at ws
      → stream_in (reset_all strict il ws i) st i ≡ stream_in ws st i → Turn (reset_stream strict) (waited strict il) (reset_all strict il ws i) st i (reset_all strict il ws (suc i))
  turn i hi h b t e =
      let hi' : i < (totals_at (reset_all strict il ws i)).known = subst (λ (x : Totals). i < x.known) (sym t) hi in
      let k : (stream_in (reset_all strict il ws i) st i).amount + back_at_words (reset_all strict il ws i) st i ≤ 2000000 = subst (λ (s : Stream). s.amount + reset.model_put_back s.items ≤ 2000000) (sym e) (small i hi) in
      rw (all_suc strict il ws i) (reset_turn strict il (reset_all strict il ws i) st h b i hi' k)

  swept : Swept (reset_stream strict) (waited strict il) ws st (totals_at ws).known (reset_all strict il ws (totals_at ws).known)
  swept = sweep (reset_stream strict) (waited strict il) (reset_id strict) ws st g a (λ i. reset_all strict il ws i) (all_zero strict il ws) turn (totals_at ws).known (omega arith)

  after_streams : streams_in (reset_all strict il ws (totals_at ws).known) st ≡ map (reset_stream strict) (streams_in ws st)
  after_streams = swept_streams (reset_stream strict) (waited strict il) (reset_id strict) ws st g a (λ i. reset_all strict il ws i) (all_zero strict il ws) turn

  after_scheduler : model_scheduler (reset_all strict il ws (totals_at ws).known) ≡ reschedule_each il has_items (map (reset_stream strict) (streams_in ws st)) (model_scheduler ws)
  unfolding streams_in
  after_scheduler =
      swept.scheduler ∙ sym (each_tab il has_items (reset_stream strict) (stream_in ws st) (totals_at ws).known (model_scheduler ws))
      ∙ ap (λ ss. reschedule_each il has_items ss (model_scheduler ws)) (tab_map (reset_stream strict) (stream_in ws st) (λ j. (reset_stream strict) (stream_in ws st j)) (totals_at ws).known (λ j h. refl))

-- ---- the call

module _ (ws st : List ℕ) (g : Good ws st) where
  -- The totals with what comes back.
  abbrev risen : Totals
  risen = with_total (totals_at ws) ((totals_at ws).total + all_put_back (streams_in ws st))

  counts : Counts ws risen
  counts = record { fits = record { message_id_fits = (Laws.totals_at_fits ws).message_id_fits }; known = refl; waiting = refl; free = refl; used = refl; gaps = refl }

  abbrev start : List ℕ
  start = put_totals ws risen

  start_shape : Shape start st
  start_shape = (begun ws st g.shape risen counts).shape

  start_known : AllKnown start st
  start_known = begun_listing ws st g.shape risen counts (all_known ws st g.well)

  start_streams : streams_in start st ≡ streams_in ws st
  start_streams = (begun ws st g.shape risen counts).streams

  same_known : (totals_at start).known ≡ (totals_at ws).known
  same_known = begun_known ws st g.shape risen counts

  same_stream : (i : ℕ) → i < (totals_at ws).known → stream_in start st i ≡ stream_in ws st i
  unfolding streams_in
  same_stream i h =
      let e : tab (stream_in start st) (totals_at ws).known ≡ tab (stream_in ws st) (totals_at ws).known = subst (λ n. tab (stream_in start st) n ≡ tab (stream_in ws st) (totals_at ws).known) same_known start_streams in
      tab_at (stream_in start st) (stream_in ws st) (totals_at ws).known i e h

  small : (i : ℕ) → i < (totals_at start).known → (stream_in start st i).amount + back_at_words start st i ≤ 2000000
  small i h =
      let k : i < (totals_at ws).known = subst (λ n. i < n) same_known h in
      subst (λ (s : Stream). s.amount + reset.model_put_back s.items ≤ 2000000) (sym (same_stream i k)) (within ws st g i k)

  abbrev strict : Bool
  strict = (options_at ws).strict_restart

  abbrev il : Bool
  il = (totals_at ws).interleaving

  done_words : Swept (reset_stream strict) (waited strict il) start st (totals_at start).known (reset_all strict il start (totals_at start).known)
  done_words = swept strict il start st start_shape start_known small

  whole_model : model (reset_all strict il start (totals_at start).known) st ≡ (whole (model ws st)).next
  unfolding model
  whole_model =
      let us : List ℕ = reset_all strict il start (totals_at start).known in
      let t : totals_at us ≡ risen = done_words.totals ∙ begun_totals ws st g.shape risen counts in
      model_is us st (options_of (options_at ws)) (totals_at ws).interleaving ((totals_at ws).total + all_put_back (streams_in ws st)) (totals_at ws).next_message_id.0 (map (reset_stream strict) (streams_in ws st))
      (reschedule_each (totals_at ws).interleaving has_items (map (reset_stream strict) (streams_in ws st)) (model_scheduler ws))
      (ap options_of (done_words.options ∙ Laws.options_put_totals ws risen)) (ap (λ (x : Totals). x.interleaving) t) (ap (λ (x : Totals). x.total) t) (ap (λ (x : Totals). x.next_message_id.0) t)
      (after_streams strict il start st start_shape start_known small ∙ ap (map (reset_stream strict)) start_streams)
      (after_scheduler strict il start st start_shape start_known small ∙ ap₂ (λ ss sc. reschedule_each il has_items (map (reset_stream strict) ss) sc) start_streams (begun_scheduler ws st g.shape risen counts))

  step_is : run.step run.reset (model ws st) ≡ whole (model ws st)
  step_is = reset_is (model ws st) ∙ reset_passes (model ws st) g.well

  accepted : reset_queue ws ≡ called (Accepted 0) (reset_all strict il start (totals_at ws).known)
  unfolding reset_queue
  accepted = rw (room_for_lem ws st g.shape (all_known ws st g.well) true, sums_are ws st g)

  pub reset_link : Does run.reset ws st (reset_queue ws).answer (reset_queue ws).next st
  reset_link =
      let us : List ℕ = reset_all strict il start (totals_at start).known in
      let d : Does run.reset ws st (Accepted 0) us st = does_quietly run.reset ws st us tt g done_words.shape (done_words.options ∙ Laws.options_put_totals ws risen)
      (whole_model ∙ ap (λ x. x.next) (sym step_is)) (ap (λ x. x.outcome.answer) step_is) (ap (λ x. x.outcome.events) step_is) in
      rw accepted (subst (λ n. Does run.reset ws st (Accepted 0) (reset_all strict il start n) st) same_known d)
