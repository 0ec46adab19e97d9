-- Restoring, last: without interleaving the first stream whose first message is half-sent is remembered. Assumes nothing.
use Rattle.std.specs.Prelude.{Some}
use mathlib.Core.Path.{◌≡◌, refl, sym, ap, ◌∙◌}
use mathlib.Core.Bool.{Bool, true, false}
use mathlib.Core.List.{List}
use mathlib.Core.Option.{Option, some}
use Prim.Native.Nat.{ℕ, zero, suc, ◌+◌, ◌≤◌, ◌<◌}
use native.Mathlib.Omega.{arith}
use borrow.Author.Tests.{lt-ltb, le-ltb}
use lib.Dec.{ltb}
use Rattle.queue_words.specs.Flags.{pick}
use Rattle.queue_words.specs.Header.{options_at, totals_at, scheduler_at, put_scheduler, FitsRemembered}
use Rattle.queue_words.specs.Items.{item_at}
use Rattle.queue_words.specs.Known.{known_at, id_at}
use Rattle.queue_words.specs.Streams.{stream_at_words}
use Rattle.queue_words.specs.declared.header.Options.{Options}
use Rattle.queue_words.specs.Header.{Remembered}
use Rattle.queue_words.specs.declared.header.SchedulerState.{SchedulerState}
use Rattle.queue_words.specs.declared.streams.OutgoingStream.{OutgoingStream}
use Rattle.queue_words.proofs.Laws
use Rattle.std.specs.Prelude.{if◌then◌else◌}
use Rattle.queue_model.specs.Types.{Stream}
use Rattle.queue_model.specs.Restore.{half_sent_first, first_half_sent, remember_half_sent}
use Rattle.stream_scheduler.specs.Link.{GoodScheduler, entry_at, table_of, current_of, model_scheduler}
use Rattle.stream_scheduler.proofs.Index.{table_same}
use Rattle.stream_scheduler.proofs.Link.{make, model_of, entry_state, state_good, current_some, current_none}
use Rattle.stream_scheduler.proofs.Frames.{untouched_state}
use Rattle.queue_state.specs.Chains.{each}
use Rattle.queue_state.specs.Model.{next_of, item_in_words, row_at, stream_in, streams_in, tab}
use Rattle.queue_state.specs.Good.{Shape}
use Rattle.queue_state.proofs.Chains.{linked_none, linked_some, linked_le}
use Rattle.queue_state.proofs.Frames.{stream_is, row_below}
use Rattle.queue_state.proofs.Singles.{Unmoved, shape_scheduler}
use Rattle.restoring.specs.Recall.{half_sent_at, first_half_sent_words, remembering, recalled}
use Rattle.handover.specs.Restore.{recalled_by}
use Rattle.queue_words.proofs.Finds.{by_lt}

-- ---- one head

module _ (us st : List ℕ) (g : Shape us st) (i : ℕ) (hi : i < (totals_at us).known) where
  abbrev row : OutgoingStream
  row = stream_at_words us (row_at us i)

  items_are : (stream_in us st i).items ≡ each (item_in_words us st) (g.q i)
  items_are = ap (λ (s : Stream). s.items) (stream_is us st g i hi)

  half_some : row.first < 1024 → half_sent_first (each (item_in_words us st) (g.q i)) ≡ ltb 0 (item_at us row.first).offset
  unfolding half_sent_first item_in_words
  half_some h = ap (λ l. half_sent_first (each (item_in_words us st) l)) (linked_some (next_of us) row.first (g.q i) (g.rows i hi).linked (λ e. omega (arith, h, e))).1

  half_none : 1024 ≤ row.first → half_sent_first (each (item_in_words us st) (g.q i)) ≡ false
  unfolding half_sent_first
  half_none h =
      let z : row.first ≡ 1024 = omega (arith, h, linked_le (next_of us) row.first (g.q i) (g.rows i hi).linked) in
      ap (λ l. half_sent_first (each (item_in_words us st) l)) (linked_none (next_of us) row.first (g.q i) (g.rows i hi).linked z)

  half_is : half_sent_first (stream_in us st i).items ≡ half_sent_at us (known_at us i)
  unfolding half_sent_at
  half_is =
      let r : row_at us i ≤ 255 = omega (arith, row_below us st g i hi) in
      ap half_sent_first items_are
      ∙ by_lt row.first 1024
      (λ h. rw (le-ltb 255 (row_at us i) r, lt-ltb row.first 1024 h) (half_some h))
      (λ h. rw (le-ltb 255 (row_at us i) r, le-ltb row.first 1024 h) (half_none h))

  id_is : (stream_in us st i).id ≡ id_at us i
  id_is = ap (λ (s : Stream). s.id) (stream_is us st g i hi)

-- ---- the first of them

module _ (us st : List ℕ) (g : Shape us st) where
  -- From position i on, n streams to the end.
  first_from : (n i : ℕ) (f : ℕ → Stream) → i + n ≤ (totals_at us).known → ((j : ℕ) → j < n → f j ≡ stream_in us st (i + j))
      → first_half_sent (tab f n) ≡ current_of (first_half_sent_words us i n)
  unfolding tab first_half_sent first_half_sent_words
  first_from zero i f h e = sym current_none
  first_from (suc n) i f h e =
      by (half_sent_at us (known_at us i)) refl (first_from n (suc i) (λ j. f (suc j)) (omega (arith, h)) (λ j k. let z : i + suc j ≡ suc i + j = omega arith in e (suc j) (omega (arith, k)) ∙ ap (stream_in us st) z))
    where
      hi : i < (totals_at us).known
      hi = omega (arith, h)

      at_i : f 0 ≡ stream_in us st i
      at_i = let z : i + 0 ≡ i = omega arith in e 0 (omega arith) ∙ ap (stream_in us st) z

      half : half_sent_first (f 0).items ≡ half_sent_at us (known_at us i)
      half = ap (λ (s : Stream). half_sent_first s.items) at_i ∙ half_is us st g i hi

      id : (f 0).id ≡ id_at us i
      id = ap (λ (s : Stream). s.id) at_i ∙ id_is us st g i hi

      by : (b : Bool) → half_sent_at us (known_at us i) ≡ b → first_half_sent (tab (λ j. f (suc j)) n) ≡ current_of (first_half_sent_words us (suc i) n)
          → (if half_sent_first (f 0).items then some (f 0).id else first_half_sent (tab (λ j. f (suc j)) n)) ≡ current_of (pick (half_sent_at us (known_at us i)) (Some (known_at us i).id) (first_half_sent_words us (suc i) n))
      by true k rest = rw (half, k) (ap some id ∙ sym (current_some (known_at us i).id))
      by false k rest = rw (half, k) rest

  first_is : first_half_sent (streams_in us st) ≡ current_of (first_half_sent_words us 0 (totals_at us).known)
  unfolding streams_in
  first_is = first_from (totals_at us).known 0 (stream_in us st) (omega arith) (λ j h. let z : j ≡ 0 + j = omega arith in ap (stream_in us st) z)

first_fits : (ws : List ℕ) (n i : ℕ) → FitsRemembered (first_half_sent_words ws i n)
unfolding first_half_sent_words
first_fits ws zero i = tt
first_fits ws (suc n) i = go (half_sent_at ws (known_at ws i)) (first_fits ws n (suc i))
  where
    go : (b : Bool) → FitsRemembered (first_half_sent_words ws (suc i) n) → FitsRemembered (pick b (Some (known_at ws i).id) (first_half_sent_words ws (suc i) n))
    go true f = (Laws.known_at_fits ws i).id_fits
    go false f = f

-- ---- the scheduler's state with another remembered stream

module _ (ws : List ℕ) (g : GoodScheduler ws) (id : Remembered) (f : FitsRemembered id) where
  abbrev state : SchedulerState
  state = remembering (scheduler_at ws) id

  abbrev us : List ℕ
  us = put_scheduler ws state

  state_is : scheduler_at us ≡ state
  state_is = Laws.scheduler_at_put ws state g.long f

  pub recalls_good : GoodScheduler us
  recalls_good = state_good ws g state refl

  pub recalls_model : model_scheduler us ≡ make (model_scheduler ws).payload_limit (current_of id) (model_scheduler ws).system_time (model_scheduler ws).active
  unfolding model_scheduler
  recalls_model =
      model_of us (options_at ws).payload_limit state (table_of (entry_at ws) (scheduler_at ws).active) (ap (λ (o : Options). o.payload_limit) (Laws.options_put_scheduler ws state)) state_is
      (table_same (entry_at ws) (entry_at us) (scheduler_at ws).active (λ j h. entry_state ws state j))

-- ---- the step

-- What remembering leaves of words.
pub record Recalled (il : Bool) (ws st us : List ℕ) : Type 0 where
  pub shape : Shape us st
  pub same_totals : totals_at us ≡ totals_at ws
  pub same_options : options_at us ≡ options_at ws
  pub same_streams : streams_in us st ≡ streams_in ws st
  pub remembers : model_scheduler us ≡ remember_half_sent il (streams_in ws st) (model_scheduler ws)

pub all_recalled : (il : Bool) (ws st : List ℕ) → Shape ws st → Recalled il ws st (recalled_by il ws (totals_at ws).known)
unfolding recalled remember_half_sent
all_recalled true ws st g = record { shape = g; same_totals = refl; same_options = refl; same_streams = refl; remembers = refl }
all_recalled false ws st g =
    let id : Remembered = first_half_sent_words ws 0 (totals_at ws).known in
    let fits : FitsRemembered id = first_fits ws (totals_at ws).known 0 in
    let m : Unmoved ws st g (put_scheduler ws (remembering (scheduler_at ws) id)) = shape_scheduler ws st _ g (untouched_state ws (remembering (scheduler_at ws) id)) (recalls_good ws g.schedules id fits) in
    record {
      shape = m.shape;
      same_totals = Laws.totals_put_scheduler ws (remembering (scheduler_at ws) id);
      same_options = Laws.options_put_scheduler ws (remembering (scheduler_at ws) id);
      same_streams = m.streams;
      remembers = recalls_model ws g.schedules id fits ∙ ap (λ (c : Option ℕ). make (model_scheduler ws).payload_limit c (model_scheduler ws).system_time (model_scheduler ws).active) (sym (first_is ws st g));
    }
