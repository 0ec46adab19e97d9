-- A stream that does not wait has no row, and so is let wait without a search for one. Assumes nothing.
use mathlib.Core.Path.{◌≡◌, ap}
use mathlib.Core.List.{List}
use mathlib.Core.Option.{none}
use Prim.Native.Nat.{ℕ, ◌<◌}
use native.Mathlib.Omega.{arith}
use borrow.Author.Tests.{le-ltb, ne_eqb}
use Rattle.queue_model.specs.Scheduler.{find_active}
use Rattle.queue_words.specs.Header.{scheduler_at}
use Rattle.queue_words.specs.declared.active.SchedulingParameters.{SchedulingParameters}
use Rattle.active_table.specs.Rows.{seek}
use Rattle.stream_scheduler.specs.Link.{GoodScheduler, entry_at, table_of, model_scheduler}
use Rattle.stream_scheduler.specs.Words.{begin_waiting, set_bytes_remaining_words}
use Rattle.stream_scheduler.proofs.Index.{table_at}
use Rattle.stream_scheduler.proofs.Search.{Sought, hit, miss, sought}

module _ (ws : List ℕ) (g : GoodScheduler ws) (id : ℕ) (idle : find_active id (model_scheduler ws).active ≡ none) where
  pub no_row : (i : ℕ) → i < (scheduler_at ws).active → (entry_at ws i).stream_id ≡ id → ⊥
  unfolding model_scheduler
  no_row i h e =
      let z : ◌≡◌ {A = ℕ} 0 1 = cc (table_at (entry_at ws) (scheduler_at ws).active i g.unlike h, ap (λ k. find_active k (table_of (entry_at ws) (scheduler_at ws).active)) e, idle) in
      omega arith

  pub begin_is_set : (bytes : ℕ) (p : SchedulingParameters) → 0 < bytes → begin_waiting ws id bytes p ≡ set_bytes_remaining_words ws id bytes p
  unfolding begin_waiting set_bytes_remaining_words
  begin_is_set bytes p h = go (sought ws id (scheduler_at ws).active)
    where
      go : Sought ws id (scheduler_at ws).active (seek ws id (scheduler_at ws).active) → begin_waiting ws id bytes p ≡ set_bytes_remaining_words ws id bytes p
      go (hit l e) = absurd (no_row (seek ws id (scheduler_at ws).active) l e)
      go (miss e none_has) = rw (le-ltb 256 (scheduler_at ws).active g.few, ne_eqb bytes 0 (λ z. omega arith), e)
