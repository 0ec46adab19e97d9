-- From good words `accept_last` leaves good words that stand for the model's: the stream's waiting ended by its last fragment, and begun anew with what is behind it. No other
-- row is that stream's (`GoodScheduler`), so none has to be sought. Assumes nothing.
use Rattle.std.specs.Prelude.{None}
use mathlib.Core.Path.{◌≡◌, refl, sym, ap, ap₂, ◌∙◌, subst}
use mathlib.Core.Bool.{true}
use mathlib.Core.List.{List, [], ◌∷◌}
use mathlib.Core.Option.{Option, none}
use Prim.Native.Nat.{ℕ, suc, ◌-◌, ◌≤◌, ◌<◌}
use native.Mathlib.Omega.{arith}
use lib.Dec.{eqb, ltb, leb}
use Rattle.queue_model.specs.Types.{Weight, Active}
use Rattle.queue_model.specs.Scheduler.{scheduled, active_key, find_active, put_active, without_active, forget, rest_time, remove_stream, start_of, set_bytes_remaining, accept_last, accept}
use Rattle.queue_model.proofs.Table.{Rising, find_without_same}
use Rattle.queue_model.proofs.Tests.{ltb_false, leb_true, leb_false, eqb_true, eqb_false, less, same, more, tri}
use Rattle.queue_model.proofs.Scheduler.{set_none, set_some}
use Rattle.queue_words.specs.Active.{active_at, put_active_words, parameters_word}
use Rattle.queue_words.specs.Header.{options_at, scheduler_at, put_scheduler}
use Rattle.queue_words.specs.declared.active.ActiveStreamInfo.{ActiveStreamInfo}
use Rattle.queue_words.specs.declared.active.SchedulingParameters.{SchedulingParameters}
use Rattle.active_table.specs.Groups.{refreshed}
use Rattle.stream_scheduler.specs.Rows.{weight_of_words, advanced, scheduled_row}
use Rattle.stream_scheduler.specs.Words.{outcome, rested, state_of, dropped_row}
use Rattle.stream_scheduler.specs.Anew.{begun_anew, last_row, accept_last_words}
use Rattle.stream_scheduler.specs.Link.{entry_at, table_of, model_scheduler, GoodScheduler, Steps, FitsParameters, Untouched}
use Rattle.stream_scheduler.proofs.Index.{rising_table, put_without, without_twice}
use Rattle.stream_scheduler.proofs.Link.{make, id_fits, current_none, forget_none, start_none, dropped_rest, count, none_there, some_there, row_link, refreshed_steps, row_fits, row_entry}
use Rattle.stream_scheduler.proofs.Handing.{moved_is, last_is, accept_last_link}
use Rattle.stream_scheduler.proofs.Frames.{untouched_same, untouched_both, untouched_if, untouched_refreshed, outcome_if, untouched_dropped}
use Rattle.queue_model.proofs.FairTurns.Entries.{forget_own}

-- ---- the model's scheduler without the stream

rest_twice : (t : ℕ) (as' : List Active) → rest_time (rest_time t as') as' ≡ rest_time t as'
unfolding rest_time
rest_twice t [] = refl
rest_twice t (a ∷ as') = refl

removed : (l : ℕ) (c : Option ℕ) (t id : ℕ) (as' : List Active) → remove_stream id (make l c t as') ≡ make l (forget id c) (rest_time t (without_active id as')) (without_active id as')
unfolding remove_stream
removed l c t id as' = refl

module _ (ws : List ℕ) (g : GoodScheduler ws) (at sent : ℕ) (h : at < (scheduler_at ws).active) where
  abbrev limit : ℕ
  limit = (options_at ws).payload_limit

  abbrev id : ℕ
  id = (entry_at ws at).stream_id

  abbrev table : List Active
  table = table_of (entry_at ws) (scheduler_at ws).active

  abbrev others : List Active
  others = without_active (entry_at ws at).stream_id (table_of (entry_at ws) (scheduler_at ws).active)

  abbrev time : ℕ
  time = advanced (active_at ws at).parameters (active_at ws at).virtual_start_time sent

  -- where the stream begins anew
  abbrev start : ℕ
  start = rested time ((scheduler_at ws).active - 1)

  rises : Rising active_key table
  rises = rising_table (entry_at ws) (scheduler_at ws).active

  -- The last fragment: the system time is 0 if no other stream waits.
  start_is : rest_time time others ≡ start
  start_is = elim (count (scheduler_at ws).active) [
    | none_there z ↦ absurd (omega arith)
    | some_there m z ↦ (let e : suc m - 1 ≡ m = omega arith in
        rw (z, e) (sym (dropped_rest ws g at m None time (subst (λ (x : ℕ). at < x) z h) z)))
  ]

  ended : accept_last (entry_at ws at) sent (model_scheduler ws) ≡ make limit none start others
  ended = last_is ws (entry_at ws at) sent ∙ ap₂ (λ (c : Option ℕ) (t : ℕ). make limit c (rest_time t others) others) (forget_own id) (moved_is ws at sent) ∙ ap (λ (t : ℕ). make limit none t others) start_is

  -- ---- nothing behind it

  stays_ended : remove_stream id (make limit none start others) ≡ make limit none start others
  stays_ended =
      removed limit none start id others
      ∙ ap₂ (λ (c : Option ℕ) (as' : List Active). make limit c (rest_time start as') as') (forget_none id) (without_twice table rises id)
      ∙ ap (λ (t : ℕ). make limit none t others) (ap (λ (t : ℕ). rest_time t others) (sym start_is) ∙ rest_twice time others ∙ start_is)

  none_behind : (w : Weight) → accept_last (entry_at ws at) sent (model_scheduler ws) ≡ set_bytes_remaining id 0 w (accept_last (entry_at ws at) sent (model_scheduler ws))
  none_behind w = ended ∙ sym stays_ended ∙ ap (remove_stream id) (sym ended) ∙ sym (set_none id w (accept_last (entry_at ws at) sent (model_scheduler ws)))

  -- ---- a message behind it

  module _ (bytes : ℕ) (p : SchedulingParameters) (fp : FitsParameters p) where
    some_behind : 0 < bytes → make limit none start (put_active (scheduled limit id (weight_of_words p) start bytes) table) ≡ set_bytes_remaining id bytes (weight_of_words p) (accept_last (entry_at ws at) sent (model_scheduler ws))
    unfolding scheduled
    some_behind pos =
        let a : Active = scheduled limit id (weight_of_words p) start bytes in
        let e : start_of start (find_active id others) ≡ start = ap (start_of start) (find_without_same active_key id table) ∙ start_none start in
        ap (make limit none start) (sym (put_without table rises a))
        ∙ ap (λ (t : ℕ). make limit none start (put_active (scheduled limit id (weight_of_words p) t bytes) others)) (sym e)
        ∙ sym (ap (set_bytes_remaining id bytes (weight_of_words p)) ended ∙ set_some id bytes (weight_of_words p) (make limit none start others) pos)

    anew_link : 0 < bytes → Steps ws (outcome true (begun_anew ws at id time bytes (parameters_word p) (scheduler_at ws).active)) (set_bytes_remaining id bytes (weight_of_words p) (accept_last (entry_at ws at) sent (model_scheduler ws)))
    unfolding begun_anew
    anew_link pos =
        let row : ActiveStreamInfo = scheduled_row limit id (parameters_word p) start bytes in
        subst (Steps ws (outcome true (put_scheduler (put_active_words ws at row) (state_of None start (scheduler_at ws).active))))
        (ap₂ (λ (c : Option ℕ) (a : Active). make limit c start (put_active a table)) current_none (row_entry ws g id bytes p (id_fits ws at) fp start) ∙ some_behind pos)
        (row_link ws g at h row (row_fits ws g id bytes p (id_fits ws at) fp start) refl None start tt)

    row_ended : Steps ws (outcome true (last_row ws at id sent bytes (parameters_word p) (scheduler_at ws).active)) (set_bytes_remaining id bytes (weight_of_words p) (accept_last (entry_at ws at) sent (model_scheduler ws)))
    unfolding last_row
    row_ended = elim (tri bytes 0) [
      | less l ↦ absurd (omega arith)
      | same z ↦ rw (eqb_true z, z) (subst (Steps ws (outcome true (dropped_row ws at None time (scheduler_at ws).active))) (none_behind (weight_of_words p)) (accept_last_link ws g at sent h))
      | more l ↦ (let ne : bytes ≡ 0 → ⊥ = λ f. omega arith in rw (eqb_false ne) (anew_link l))
    ]

    accepted : accept_last_words ws at id sent bytes p ≡ outcome true (refreshed (last_row ws at id sent bytes (parameters_word p) (scheduler_at ws).active) at)
    unfolding accept_last_words
    accepted = rw (ltb_false g.few, leb_false h)

    pub last_link : (entry_at ws at).bytes_remaining ≤ sent → Steps ws (accept_last_words ws at (entry_at ws at).stream_id sent bytes p) (set_bytes_remaining (entry_at ws at).stream_id bytes (weight_of_words p) (accept (entry_at ws at) sent (model_scheduler ws)))
    unfolding accept
    last_link le = rw (accepted, leb_true le) (refreshed_steps ws (last_row ws at id sent bytes (parameters_word p) (scheduler_at ws).active) at _ row_ended)

-- ---- what it leaves alone, for any words

untouched_ended : (ws : List ℕ) (at id sent bytes w n : ℕ) → Untouched ws (last_row ws at id sent bytes w n)
unfolding last_row begun_anew
untouched_ended ws at id sent bytes w n = untouched_if ws (eqb bytes 0) _ _ (untouched_dropped ws at _ _ n) (untouched_both ws at _ _)

pub untouched_last : (ws : List ℕ) (at id sent bytes : ℕ) (p : SchedulingParameters) → Untouched ws (accept_last_words ws at id sent bytes p).next
unfolding accept_last_words
untouched_last ws at id sent bytes p = outcome_if ws (ltb 256 (scheduler_at ws).active) _ _ (untouched_same ws) (outcome_if ws (leb (scheduler_at ws).active at) _ _ (untouched_same ws) (untouched_refreshed ws _ at (untouched_ended ws at id sent bytes _ _)))
