-- Commit and rollback are the model's. Assumes nothing.
use mathlib.Core.Path.{◌≡◌, refl, sym, ap, ◌∙◌, subst}
use mathlib.Core.Bool.{Bool, true, false, ◌&&◌}
use mathlib.Core.List.{List, [], map}
use Prim.Native.Nat.{ℕ, suc, ◌<◌}
use native.Mathlib.Omega.{arith}
use borrow.Author.Tests.{le-ltb}
use lib.Dec.{ltb}
use Rattle.queue_words.specs.Flags.{pick}
use Rattle.queue_words.specs.Header.{options_at, totals_at}
use Rattle.queue_words.specs.Known.{known_at, id_at}
use Rattle.queue_words.specs.Streams.{is_resetting_words, stream_at_words, put_stream_words, FitsStream}
use Rattle.queue_words.specs.declared.header.Totals.{Totals}
use Rattle.queue_words.specs.declared.streams.OutgoingStream.{OutgoingStream}
use Rattle.queue_words.proofs.Laws
use Rattle.std.specs.Prelude.{if◌then◌else◌}
use Rattle.queue_model.specs.Types as plain
use Rattle.queue_model.specs.Types.{Stream, Scheduler, Queue, done, with_state}
use Rattle.queue_model.specs.Run as run
use Rattle.queue_model.specs.Demands.{Typed}
use Rattle.queue_model.specs.Reset as reset
use Rattle.queue_model.specs.Reset.{is_resetting, reopened}
use Rattle.queue_model.specs.Streams.{has_items, reschedule, reschedule_each}
use Rattle.stream_scheduler.specs.Link.{model_scheduler}
use Rattle.queue_streams.specs.Settings.{called}
use Rattle.queue_streams.specs.Waiting.{rescheduled}
use Rattle.queue_streams.specs.Restart.{opened, reopened_in, reopened_at, reopened_all, reopen}
use Rattle.queue_streams.specs.Call.{Accepted}
use Rattle.queue_streams.proofs.Commits.{opened_fits}
use Rattle.queue_state.specs.Chains.{each}
use Rattle.queue_state.specs.Model.{item_in_words, pause_of, stream_of, row_at, stream_in, streams_in, model, options_of}
use Rattle.queue_state.specs.Good.{Shape, Good}
use Rattle.queue_state.specs.Promise.{Does}
use Rattle.queue_state.proofs.Frames.{stream_is, row_below}
use Rattle.queue_state.proofs.Singles.{model_is}
use Rattle.queue_state.proofs.Rooms.{AllKnown, all_known}
use Rattle.linked_restarts.proofs.Sweeps.{Turn, Swept, turned, each_tab, sweep, swept_streams}
use Rattle.linked_restarts.proofs.Tallies.{room_for_lem}
use Rattle.linked_restarts.proofs.Turns.{resetting_is, first_is, wait_alike, no_turn, stored_turn, stored_wait}
use Rattle.linked_restarts.proofs.Closings.{does_quietly}
use Rattle.queue_model.proofs.Arrivals.Ledger.{reopened_id}

-- ---- a stream opened

opened_first : (z : Bool) (s : OutgoingStream) → (opened z s).first ≡ s.first
opened_first true s = refl
opened_first false s = refl

opened_last : (z : Bool) (s : OutgoingStream) → (opened z s).last ≡ s.last
opened_last true s = refl
opened_last false s = refl

opened_priority : (z : Bool) (s : OutgoingStream) → (opened z s).priority ≡ s.priority
opened_priority true s = refl
opened_priority false s = refl

opened_is : (z : Bool) (id : ℕ) (s : OutgoingStream) (is : List plain.Item) → stream_of id (opened z s) is ≡ reset.opened z (stream_of id s is)
unfolding reset.opened pause_of
opened_is true id s is = refl
opened_is false id s is = refl

reopened_by : (z : Bool) (s : Stream) (b : Bool) → is_resetting s ≡ b → reopened z s ≡ (if b then reset.opened z s else s)
unfolding reopened
reopened_by z s b e = rw e

opened_alike : (z : Bool) (il : Bool) (s : Stream) (sc : Scheduler) → reschedule il s sc ≡ reschedule il (reset.opened z s) sc
unfolding reset.opened
opened_alike true il s sc = wait_alike il (reset.opened true s) s sc refl refl refl
opened_alike false il s sc = wait_alike il (reset.opened false s) s sc refl refl refl

-- A resetting stream with messages is let wait.
abbrev waited : Bool → Stream → Scheduler → Scheduler
waited il = turned il (λ s. is_resetting s && has_items s) (λ s. s)

module _ (z il : Bool) (us st : List ℕ) (g : Shape us st) (a : AllKnown us st) (i : ℕ) (hi : i < (totals_at us).known) where
  abbrev row : OutgoingStream
  row = stream_at_words us (row_at us i)

  abbrev vs : List ℕ
  vs = put_stream_words us (row_at us i) (opened z row)

  here : stream_in us st i ≡ stream_of (id_at us i) row (each (item_in_words us st) (g.q i))
  here = stream_is us st g i hi

  state : is_resetting (stream_in us st i) ≡ is_resetting_words row.pause_state
  state = ap is_resetting here ∙ resetting_is (id_at us i) row (each (item_in_words us st) (g.q i))

  filled : has_items (stream_in us st i) ≡ ltb row.first 1024
  filled = ap has_items here ∙ first_is us st (id_at us i) row.first row (g.q i) (g.rows i hi).linked

  not_due : (x y : Bool) → is_resetting (stream_in us st i) ≡ x → has_items (stream_in us st i) ≡ y → (x && y) ≡ false → waited il (stream_in us st i) (model_scheduler us) ≡ model_scheduler us
  not_due x y e f h =
      let k : (is_resetting (stream_in us st i) && has_items (stream_in us st i)) ≡ false = rw (e, f) h in
      ap (λ (b : Bool). if b then reschedule il (stream_in us st i) (model_scheduler us) else model_scheduler us) k

  is_due : is_resetting (stream_in us st i) ≡ true → has_items (stream_in us st i) ≡ true → waited il (stream_in us st i) (model_scheduler us) ≡ reschedule il (reopened z (stream_in us st i)) (model_scheduler us)
  is_due e f =
      let k : (is_resetting (stream_in us st i) && has_items (stream_in us st i)) ≡ true = rw (e, f) in
      ap (λ (b : Bool). if b then reschedule il (stream_in us st i) (model_scheduler us) else model_scheduler us) k
      ∙ opened_alike z il (stream_in us st i) (model_scheduler us)
      ∙ ap (λ (x : Stream). reschedule il x (model_scheduler us)) (sym (reopened_by z (stream_in us st i) true e))

  new_is : is_resetting (stream_in us st i) ≡ true → stream_of (id_at us i) (opened z row) (each (item_in_words us st) (g.q i)) ≡ reopened z (stream_in us st i)
  new_is e = opened_is z (id_at us i) row (each (item_in_words us st) (g.q i)) ∙ ap (reset.opened z) (sym here) ∙ sym (reopened_by z (stream_in us st i) true e)

  fits : FitsStream (opened z row)
  fits = opened_fits z row (Laws.stream_at_fits us (row_at us i))

  by_first : (b : Bool) → ltb row.first 1024 ≡ b → is_resetting (stream_in us st i) ≡ true
      → Turn (reopened z) (waited il) us st i (pick b (rescheduled vs il (id_at us i) row.first row.priority) vs)
  by_first true e r =
      let t = stored_wait us st g a i hi (reopened z) (waited il) (opened z row) fits (opened_first z row) (opened_last z row) (new_is r) il (is_due r (filled ∙ e)) in
      subst (λ p. Turn (reopened z) (waited il) us st i (rescheduled vs il (id_at us i) row.first p)) (opened_priority z row)
      (subst (λ p. Turn (reopened z) (waited il) us st i (rescheduled vs il (id_at us i) p (opened z row).priority)) (opened_first z row) t)
  by_first false e r = stored_turn us st g a i hi (reopened z) (waited il) (opened z row) fits (opened_first z row) (opened_last z row) (new_is r) (not_due true false r (filled ∙ e) refl)

  by_state : (b : Bool) → is_resetting_words row.pause_state ≡ b
      → Turn (reopened z) (waited il) us st i (pick b (pick (ltb row.first 1024) (rescheduled vs il (id_at us i) row.first row.priority) vs) us)
  by_state false e = no_turn us st g a i hi (reopened z) (waited il) (reopened_by z (stream_in us st i) false (state ∙ e)) (not_due false (has_items (stream_in us st i)) (state ∙ e) refl refl)
  by_state true e = by_first (ltb row.first 1024) refl (state ∙ e)

  pub reopen_turn : Turn (reopened z) (waited il) us st i (reopened_at z il us (known_at us i))
  unfolding reopened_at reopened_in
  reopen_turn =
      let r : row_at us i < 256 = row_below us st g i hi in
      rw (le-ltb 255 (row_at us i) (omega arith)) (by_state (is_resetting_words row.pause_state) refl)

-- ---- the call

all_zero : (z il : Bool) (ws : List ℕ) → reopened_all z il ws 0 ≡ ws
unfolding reopened_all
all_zero z il ws = refl

all_suc : (z il : Bool) (ws : List ℕ) (i : ℕ) → reopened_all z il ws (suc i) ≡ reopened_at z il (reopened_all z il ws i) (known_at (reopened_all z il ws i) i)
unfolding reopened_all
all_suc z il ws i = refl

-- The model's call, part by part.
reopen_next : (z : Bool) (q : Queue) → (reset.reopen z q).next ≡ with_state q q.total (map (reopened z) q.streams) (reschedule_each q.interleaving (λ s. is_resetting s && has_items s) q.streams q.scheduler)
unfolding reset.reopen
reopen_next z q = refl

reopen_answer : (z : Bool) (q : Queue) → (reset.reopen z q).outcome.answer ≡ done
unfolding reset.reopen
reopen_answer z q = refl

reopen_events : (z : Bool) (q : Queue) → (reset.reopen z q).outcome.events ≡ []
unfolding reset.reopen
reopen_events z q = refl

module _ (z : Bool) (ws st : List ℕ) (g : Good ws st) where
  abbrev il : Bool
  il = (totals_at ws).interleaving

  abbrev done_words : List ℕ
  done_words = reopened_all z il ws (totals_at ws).known

  known : AllKnown ws st
  known = all_known ws st g.well

  turn : (i : ℕ) → i < (totals_at ws).known → (h : Shape (reopened_all z il ws i) st) → AllKnown (reopened_all z il ws i) st → totals_at (reopened_all z il ws i) ≡ totals_at ws
      → stream_in (reopened_all z il ws i) st i ≡ stream_in ws st i → Turn (reopened z) (waited il) (reopened_all z il ws i) st i (reopened_all z il ws (suc i))
  turn i hi h a t e =
      let hi' : i < (totals_at (reopened_all z il ws i)).known = subst (λ (x : Totals). i < x.known) (sym t) hi in
      rw (all_suc z il ws i) (reopen_turn z il (reopened_all z il ws i) st h a i hi')

  swept : Swept (reopened z) (waited il) ws st (totals_at ws).known done_words
  swept = sweep (reopened z) (waited il) (reopened_id z) ws st g.shape known (λ i. reopened_all z il ws i) (all_zero z il ws) turn (totals_at ws).known (omega arith)

  after_streams : streams_in done_words st ≡ map (reopened z) (streams_in ws st)
  after_streams = swept_streams (reopened z) (waited il) (reopened_id z) ws st g.shape known (λ i. reopened_all z il ws i) (all_zero z il ws) turn

  after_scheduler : model_scheduler done_words ≡ reschedule_each il (λ s. is_resetting s && has_items s) (streams_in ws st) (model_scheduler ws)
  unfolding streams_in
  after_scheduler = swept.scheduler ∙ sym (each_tab il (λ s. is_resetting s && has_items s) (λ s. s) (stream_in ws st) (totals_at ws).known (model_scheduler ws))

  pub reopen_model : model done_words st ≡ (reset.reopen z (model ws st)).next
  unfolding model
  reopen_model =
      model_is done_words st (options_of (options_at ws)) il (totals_at ws).total (totals_at ws).next_message_id.0 (map (reopened z) (streams_in ws st))
      (reschedule_each il (λ s. is_resetting s && has_items s) (streams_in ws st) (model_scheduler ws))
      (ap options_of swept.options) (ap (λ (t : Totals). t.interleaving) swept.totals) (ap (λ (t : Totals). t.total) swept.totals) (ap (λ (t : Totals). t.next_message_id.0) swept.totals) after_streams after_scheduler
      ∙ sym (reopen_next z (model ws st))

  accepted : reopen z ws ≡ called (Accepted 0) done_words
  unfolding reopen
  accepted = rw (room_for_lem ws st g.shape known false)

-- The two calls in the run of calls.
commit_is : (q : Queue) → run.step run.commit q ≡ reset.reopen true q
unfolding run.step reset.commit
commit_is q = refl

rollback_is : (q : Queue) → run.step run.rollback q ≡ reset.reopen false q
unfolding run.step reset.rollback
rollback_is q = refl

module _ (c : run.Call) (z : Bool) (typed : Typed c) (is : (q : Queue) → run.step c q ≡ reset.reopen z q) (ws st : List ℕ) (g : Good ws st) where
  reopen_does : Does c ws st (reopen z ws).answer (reopen z ws).next st
  reopen_does =
      let us : List ℕ = reopened_all z (totals_at ws).interleaving ws (totals_at ws).known in
      let d : Does c ws st (Accepted 0) us st = does_quietly c ws st us typed g (swept z ws st g).shape (swept z ws st g).options (reopen_model z ws st g ∙ ap (λ x. x.next) (sym (is (model ws st))))
      (ap (λ x. x.outcome.answer) (is (model ws st)) ∙ reopen_answer z (model ws st)) (ap (λ x. x.outcome.events) (is (model ws st)) ∙ reopen_events z (model ws st)) in
      rw (accepted z ws st g) d

pub commit_link : (ws st : List ℕ) → Good ws st → Does run.commit ws st (reopen true ws).answer (reopen true ws).next st
commit_link ws st g = reopen_does run.commit true tt commit_is ws st g

pub rollback_link : (ws st : List ℕ) → Good ws st → Does run.rollback ws st (reopen false ws).answer (reopen false ws).next st
rollback_link ws st g = reopen_does run.rollback false tt rollback_is ws st g
