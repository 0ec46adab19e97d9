-- A head dropped in its stream's state, by a discard or as expired, is the model's. Assumes nothing.
use Prim.Native.Nat.{ℕ, ◌+◌, ◌-◌, ◌≤◌, ◌<◌}
use mathlib.Core.Path.{◌≡◌, refl, sym, ap, subst, ◌∙◌}
use mathlib.Core.Bool.{Bool, true, false}
use mathlib.Core.List.{List, ◌∷◌, ◌++◌}
use native.Mathlib.Omega.{arith}
use borrow.Author.Tests.{le-ltb}
use lib.ListN.{length}
use Rattle.queue_words.specs.Header.{options_at, totals_at}
use Rattle.queue_words.specs.Items.{item_at}
use Rattle.queue_words.specs.Known.{id_at}
use Rattle.queue_words.specs.Streams.{is_pending, stream_at_words}
use Rattle.queue_words.specs.declared.items.Item.{Item}
use Rattle.queue_words.specs.declared.streams.OutgoingStream.{OutgoingStream}
use Rattle.queue_words.specs.declared.streams.PauseState.{PauseState}
use Rattle.queue_words.specs.declared.streams.PauseState.TheVariants.{NotPaused, Pending, Paused, Resetting}
use Rattle.queue_words.proofs.Laws
use Rattle.queue_model.specs.Types.{Stream, Queue, Scheduler, Event, remaining, with_items, with_state}
use Rattle.queue_model.specs.Types as plain
use Rattle.queue_model.specs.Scheduler.{remove_stream}
use Rattle.queue_model.specs.Streams.{put_stream, reschedule}
use Rattle.queue_model.specs.Refusals.{short_of}
use Rattle.queue_model.specs.Amounts.{drop_head_events, total_low, stream_low, total_falls, stream_falls, lifecycle_events}
use Rattle.queue_model.specs.Produce.{drop_head, drop_in}
use Rattle.queue_model.proofs.Streams.{unsent_bytes}
use Rattle.queue_model.proofs.Tests.{holds}
use Rattle.queue_model.proofs.Invariant.Fine.{enough}
use Rattle.stream_scheduler.specs.Link.{model_scheduler, FitsParameters}
use Rattle.stream_scheduler.specs.Words.{Outcome, remove_stream_words, set_bytes_remaining_words}
use Rattle.stream_scheduler.proofs.Link.{remove_link, set_link}
use Rattle.queue_streams.specs.Events.{event_words, written}
use Rattle.queue_streams.specs.Settings.{CalledWith, called_with}
use Rattle.queue_streams.specs.Waiting.{head_size_words, parameters_for, rescheduled}
use Rattle.queue_streams.specs.Call.{Accepted}
use Rattle.message_chains.specs.Amounts.{rest}
use Rattle.message_chains.specs.Dropping.{scheduled_behind, end_pending_words, behind_dropped, dropped_in_state}
use Rattle.message_chains.specs.Heads.{head_code, head_dropped, drop_notes, without_head}
use Rattle.queue_state.specs.Chains.{each}
use Rattle.queue_state.specs.Model.{next_of, item_in_words, pause_of, stream_of, row_at, options_of, streams_in, model}
use Rattle.queue_state.specs.Good.{Shape, Good}
use Rattle.queue_state.proofs.Heads.{head_first, head_fits, head_linked, head_may}
use Rattle.queue_state.proofs.Notes.{listed, drop_noted}
use Rattle.queue_state.proofs.Rooms.{Let, KnownTo, all_known, known_position, remove_known, reschedule_known, room_of}
use Rattle.queue_state.proofs.Singles.{model_options, model_total, model_streams, model_interleaving, model_schedules}
use Rattle.queue_state.proofs.Facts.{stream_here, rest_is, lifecycle_is, amount_sum, amount_total}
use Rattle.queue_state.proofs.Leaves.{head_leaves}

-- What is left where the head j of the stream s, with `is` behind it, is dropped in the stream's state, after k events.
pub record DroppedIn (ws st : List ℕ) (s : Stream) (j : plain.Item) (is : List plain.Item) (es : List ℕ) (k : ℕ) (d : CalledWith) : Type 0 where
  pub shape : Shape d.next st
  pub options : options_at d.next ≡ options_at ws
  pub next : model d.next st ≡ drop_in s.pause_state (model ws st) s j is
  pub answer : d.answer ≡ Accepted (k + length (drop_head_events (model ws st) s j))
  pub events : d.events ≡ written es k (drop_head_events (model ws st) s j)

-- ---- the words' definition, case by case

head_goes : (ws es : List ℕ) (k id r : ℕ) (s : OutgoingStream) (m : Item) → head_code ws s s.first m.next (rest m) ≡ 0 → dropped_in_state ws es k id r s m ≡ behind_dropped ws es k id r s m
unfolding dropped_in_state
head_goes ws es k id r s m e = rw (le-ltb 0 (head_code ws s s.first m.next (rest m)) (omega arith))

behind_goes : (ws es : List ℕ) (k id r : ℕ) (s : OutgoingStream) (m : Item) → (scheduled_behind ws id s m.next).done ≡ true
    → behind_dropped ws es k id r s m ≡ called_with (Accepted (drop_notes (scheduled_behind ws id s m.next).next es k id s (rest m) m.lifecycle_id).count)
    (head_dropped (scheduled_behind ws id s m.next).next r s (end_pending_words s.pause_state) m)
    (drop_notes (scheduled_behind ws id s m.next).next es k id s (rest m) m.lifecycle_id).events
unfolding behind_dropped
behind_goes ws es k id r s m e = rw e

end_other : (state : PauseState) → is_pending state ≡ false → end_pending_words state ≡ state
unfolding end_pending_words
end_other NotPaused e = refl
end_other Pending e = absurd (holds false (sym e))
end_other Paused e = refl
end_other Resetting e = refl

pause_other : (state : PauseState) (q : Queue) (s : Stream) (i : plain.Item) (is : List plain.Item) → is_pending state ≡ false → drop_in (pause_of state) q s i is ≡ drop_head q s i is
unfolding pause_of drop_in
pause_other NotPaused q s i is e = refl
pause_other Pending q s i is e = absurd (holds false (sym e))
pause_other Paused q s i is e = refl
pause_other Resetting q s i is e = refl

module _ (ws st : List ℕ) (g : Good ws st) (i : ℕ) (hk : i < (totals_at ws).known) (x : ℕ) (xs : List ℕ) (eq : g.shape.q i ≡ x ∷ xs) where
  abbrev s : OutgoingStream
  s = stream_at_words ws (row_at ws i)

  abbrev y : Item
  y = item_at ws x

  abbrev t : Stream
  t = stream_here ws st i (x ∷ xs)

  abbrev j : plain.Item
  j = item_in_words ws st x

  abbrev is : List plain.Item
  is = each (item_in_words ws st) xs

  x_fits : x < 1024
  x_fits = head_fits ws st g.shape i hk x xs eq

  bytes : remaining j ≡ rest y
  bytes = rest_is ws st x g.shape.lay x_fits

  in_amount : rest y ≤ s.buffered_amount
  in_amount =
      let a = amount_sum ws st g i hk ∙ ap (λ (ps : List ℕ). unsent_bytes (each (item_in_words ws st) ps)) eq in
      omega (arith, a, bytes)

  in_total : rest y ≤ (totals_at ws).total
  in_total = omega (arith, in_amount, amount_total ws st g i hk)

  pub not_short : short_of (model ws st) (stream_here ws st i (x ∷ xs)) (remaining (item_in_words ws st x)) ≡ false
  not_short = enough (model ws st) t (remaining j) (omega (arith, bytes, in_total, model_total ws st)) (omega (arith, bytes, in_amount))

  -- the events
  abbrev fired : List Event
  fired = drop_head_events (model ws st) t j

  abbrev dropped : Queue
  dropped = drop_in (pause_of s.pause_state) (model ws st) t j is

  fired_is : (us : List ℕ) → options_at us ≡ options_at ws → totals_at us ≡ totals_at ws
      → fired ≡ total_falls (options_of (options_at us)) (totals_at us).total (rest y) ++ stream_falls t s.buffered_amount (rest y) ++ lifecycle_events y.lifecycle_id
  unfolding drop_head_events total_low stream_low
  fired_is us o u = rw (model_options ws st, model_total ws st, bytes, lifecycle_is ws st x, o, u)

  may_go_lem : head_code ws s s.first (next_of ws x) (rest y) ≡ 0
  may_go_lem = subst (λ (p : ℕ). head_code ws s p (next_of ws x) (rest y) ≡ 0) (sym (head_first ws st g.shape i hk x xs eq)) (head_may ws st g.shape i hk x xs eq s (rest y) in_total in_amount)

  known : KnownTo (streams_in ws st) (id_at ws i)
  known = known_position ws st g.shape i hk

  id_fits : id_at ws i < 65536
  id_fits = (Laws.known_at_fits ws i).id_fits

  -- "When a pending stream's message ends or is discarded, it is paused", and stops waiting; document 02, 3/13: so it is when its half-sent head expires.
  pending_drops : s.pause_state ≡ Pending → dropped ≡ with_state (model ws st) ((totals_at ws).total - rest y) (put_stream (stream_of (id_at ws i) (without_head s Paused (next_of ws x) (rest y)) is) (streams_in ws st)) (remove_stream (id_at ws i) (model_scheduler ws))
  unfolding drop_in without_head pause_of
  pending_drops e =
      ap (λ (p : PauseState). drop_in (pause_of p) (model ws st) t j is) e
      ∙ rw (model_total ws st, model_streams ws st, model_schedules ws st, bytes)

  behind_pending : s.pause_state ≡ Pending → scheduled_behind ws (id_at ws i) s y.next ≡ remove_stream_words ws (id_at ws i)
  unfolding scheduled_behind
  behind_pending e = rw e

  ends_pending : s.pause_state ≡ Pending → end_pending_words s.pause_state ≡ Paused
  unfolding end_pending_words
  ends_pending e = rw e

  -- any other stream waits with what is behind
  abbrev t' : Stream
  t' = with_items t (s.buffered_amount - rest y) is

  other_drops : is_pending s.pause_state ≡ false → dropped ≡ with_state (model ws st) ((totals_at ws).total - rest y) (put_stream (stream_of (id_at ws i) (without_head s s.pause_state (next_of ws x) (rest y)) is) (streams_in ws st)) (reschedule (totals_at ws).interleaving t' (model_scheduler ws))
  unfolding drop_head without_head
  other_drops ne =
      pause_other s.pause_state (model ws st) t j is ne
      ∙ rw (model_total ws st, model_streams ws st, model_schedules ws st, model_interleaving ws st, bytes)

  behind_other : is_pending s.pause_state ≡ false → scheduled_behind ws (id_at ws i) s y.next ≡ set_bytes_remaining_words ws (id_at ws i) (head_size_words ws y.next) (parameters_for (totals_at ws).interleaving s.priority)
  unfolding scheduled_behind
  behind_other ne = rw ne

  ends_other : is_pending s.pause_state ≡ false → end_pending_words s.pause_state ≡ s.pause_state
  ends_other ne = end_other s.pause_state ne

  other_let : Let ws st g.shape (set_bytes_remaining_words ws (id_at ws i) (head_size_words ws y.next) (parameters_for (totals_at ws).interleaving s.priority)).next (reschedule (totals_at ws).interleaving t' (model_scheduler ws))
  unfolding rescheduled
  other_let = reschedule_known ws st g.shape (all_known ws st g.well) (totals_at ws).interleaving t' (next_of ws x) xs known (Laws.stream_at_fits ws (row_at ws i)).priority_fits (head_linked ws st g.shape i hk x xs eq).2 refl

  parameters_fit : (il : Bool) → FitsParameters (parameters_for il s.priority)
  parameters_fit true = (Laws.stream_at_fits ws (row_at ws i)).priority_fits
  parameters_fit false = tt

  other_done : (set_bytes_remaining_words ws (id_at ws i) (head_size_words ws y.next) (parameters_for (totals_at ws).interleaving s.priority)).done ≡ true
  other_done = (set_link ws g.shape.schedules (id_at ws i) (head_size_words ws y.next) (parameters_for (totals_at ws).interleaving s.priority) id_fits (parameters_fit (totals_at ws).interleaving) (room_of ws st g.shape (all_known ws st g.well) (id_at ws i) known)).step_done

  module _ (es : List ℕ) (k : ℕ) (long : event_words ≤ length es) (few : k + length fired ≤ 2305) where
    abbrev Told : CalledWith → Type 0
    Told d = DroppedIn ws st t j is es k d

    noted : (us : List ℕ) → options_at us ≡ options_at ws → totals_at us ≡ totals_at ws → drop_notes us es k (id_at ws i) s (rest y) y.lifecycle_id ≡ listed es k fired
    noted us o u =
        let e = fired_is us o u in
        let b : k + length (total_falls (options_of (options_at us)) (totals_at us).total (rest y) ++ stream_falls t s.buffered_amount (rest y) ++ lifecycle_events y.lifecycle_id) ≤ 2305 = omega (arith, few, ap (λ (l : List Event). length l) e) in
        drop_noted us es k (id_at ws i) s t (rest y) refl refl long y.lifecycle_id b ∙ ap (listed es k) (sym e)

    -- whatever the scheduler leaves, if it is the model's
    goes : (us : List ℕ) (sc : Scheduler) (state : PauseState) → Let ws st g.shape us sc
        → dropped ≡ with_state (model ws st) ((totals_at ws).total - rest y) (put_stream (stream_of (id_at ws i) (without_head s state (next_of ws x) (rest y)) is) (streams_in ws st)) sc
        → Told (called_with (Accepted (drop_notes us es k (id_at ws i) s (rest y) y.lifecycle_id).count) (head_dropped us (row_at ws i) s state y) (drop_notes us es k (id_at ws i) s (rest y) y.lifecycle_id).events)
    goes us sc state u e =
        let l = head_leaves ws st g.shape i hk x xs eq us sc u state in
        let n = noted us u.untouched.same_options u.untouched.same_totals in
        rw n (record { shape = l.shape; options = l.options; next = l.queue ∙ sym e; answer = refl; events = refl })

    -- the words that behindDropped leaves, by what the scheduler left and the state
    tells : (o : Outcome) (state : PauseState) → scheduled_behind ws (id_at ws i) s y.next ≡ o → o.done ≡ true → end_pending_words s.pause_state ≡ state
        → Told (called_with (Accepted (drop_notes o.next es k (id_at ws i) s (rest y) y.lifecycle_id).count) (head_dropped o.next (row_at ws i) s state y) (drop_notes o.next es k (id_at ws i) s (rest y) y.lifecycle_id).events)
        → Told (dropped_in_state ws es k (id_at ws i) (row_at ws i) s y)
    tells o state eo ed es' r =
        let b : (scheduled_behind ws (id_at ws i) s y.next).done ≡ true = ap (λ (z : Outcome). z.done) eo ∙ ed in
        rw (head_goes ws es k (id_at ws i) (row_at ws i) s y may_go_lem, behind_goes ws es k (id_at ws i) (row_at ws i) s y b, eo, es') r

    pub dropped_in_state_lem : DroppedIn ws st (stream_here ws st i (x ∷ xs)) (item_in_words ws st x) (each (item_in_words ws st) xs) es k (dropped_in_state ws es k (id_at ws i) (row_at ws i) (stream_at_words ws (row_at ws i)) (item_at ws x))
    dropped_in_state_lem = by s.pause_state refl
      where
        other : is_pending s.pause_state ≡ false → Told (dropped_in_state ws es k (id_at ws i) (row_at ws i) s y)
        other ne =
            tells (set_bytes_remaining_words ws (id_at ws i) (head_size_words ws y.next) (parameters_for (totals_at ws).interleaving s.priority)) s.pause_state (behind_other ne) other_done (ends_other ne)
            (goes (set_bytes_remaining_words ws (id_at ws i) (head_size_words ws y.next) (parameters_for (totals_at ws).interleaving s.priority)).next (reschedule (totals_at ws).interleaving t' (model_scheduler ws)) s.pause_state other_let (other_drops ne))

        by : (p : PauseState) → s.pause_state ≡ p → Told (dropped_in_state ws es k (id_at ws i) (row_at ws i) s y)
        by NotPaused e = other (ap is_pending e)
        by Pending e =
            tells (remove_stream_words ws (id_at ws i)) Paused (behind_pending e) (remove_link ws g.shape.schedules (id_at ws i) id_fits).step_done (ends_pending e)
            (goes (remove_stream_words ws (id_at ws i)).next (remove_stream (id_at ws i) (model_scheduler ws)) Paused (remove_known ws st g.shape (all_known ws st g.well) (id_at ws i) id_fits) (pending_drops e))
        by Paused e = other (ap is_pending e)
        by Resetting e = other (ap is_pending e)
