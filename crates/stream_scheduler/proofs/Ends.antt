-- The ways out of the functions for a last fragment, over plain values: a callee's result is a variable, what it ensures a hypothesis. Assumes nothing.
use Rattle.std.specs.Prelude.{None}
use mathlib.Core.Path.{◌≡◌}
use mathlib.Core.Bool.{true}
use mathlib.Core.List.{List}
use Prim.Native.Nat.{ℕ, ◌-◌, ◌≤◌, ◌<◌}
use borrow.Author.Tests.{le-ltb, lt-leb, eq-eqb, ne_eqb}
use Rattle.queue_words.specs.Active.{active_at, put_active_words, parameters_word}
use Rattle.queue_words.specs.Header.{options_at, scheduler_at, put_scheduler}
use Rattle.queue_words.specs.declared.active.ActiveStreamInfo.{ActiveStreamInfo}
use Rattle.queue_words.specs.declared.active.SchedulingParameters.{SchedulingParameters}
use Rattle.queue_words.specs.declared.header.Options.{Options}
use Rattle.queue_words.specs.declared.header.SchedulerState.{SchedulerState}
use Rattle.active_table.specs.Groups.{refreshed}
use Rattle.stream_scheduler.specs.Rows.{advanced, scheduled_row}
use Rattle.stream_scheduler.specs.Words.{outcome, rested, state_of, dropped_row}
use Rattle.stream_scheduler.specs.Anew.{begun_anew, last_row, accept_last_words}
use Rattle.stream_scheduler.proofs.Exits.{put_few}

pub begun_anew_lem : (ws : List ℕ) (at id t bytes w n : ℕ) (o : Options) (start : ℕ) (row : ActiveStreamInfo) (l m : List ℕ) → o ≡ options_at ws → start ≡ rested t (n - 1)
    → row ≡ scheduled_row o.payload_limit id w start bytes → l ≡ put_active_words ws at row → m ≡ put_scheduler l (state_of None start n) → m ≡ begun_anew ws at id t bytes w n
unfolding begun_anew
begun_anew_lem ws at id t bytes w n o start row l m eo es er el em = rw (em, el, er, es, eo)

pub begun_few : (ws us : List ℕ) (at id t bytes w n : ℕ) → us ≡ begun_anew ws at id t bytes w n → n ≤ 256 → (scheduler_at us).active ≤ 256
unfolding begun_anew
begun_few ws us at id t bytes w n e h = put_few _ us _ e h

module _ (ws : List ℕ) (at id sent bytes : ℕ) (p : SchedulingParameters) (s : SchedulerState) (es : s ≡ scheduler_at ws) where
  module _ (h : s.active ≤ 256) where
    module _ (f : at < s.active) (a : ActiveStreamInfo) (ea : a ≡ active_at ws at) (t : ℕ) (et : t ≡ advanced a.parameters a.virtual_start_time sent) where
      pub last_none : (l r : List ℕ) → bytes ≡ 0 → l ≡ dropped_row ws at None t s.active → r ≡ refreshed l at → outcome true r ≡ accept_last_words ws at id sent bytes p
      unfolding accept_last_words last_row
      last_none l r z el er = rw (← es, le-ltb _ _ h, lt-leb _ _ f, ← ea, eq-eqb _ _ z, er, el, et)

      pub last_anew : (w : ℕ) (l r : List ℕ) → (bytes ≡ 0 → ⊥) → w ≡ parameters_word p → l ≡ begun_anew ws at id t bytes w s.active → r ≡ refreshed l at → outcome true r ≡ accept_last_words ws at id sent bytes p
      unfolding accept_last_words last_row
      last_anew w l r z ew el er = rw (← es, le-ltb _ _ h, lt-leb _ _ f, ← ea, ne_eqb _ _ z, er, el, et, ew)
