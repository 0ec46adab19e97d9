-- The totals stored before the first turn: streams, scheduler and what it lists are as before. Assumes nothing.
use mathlib.Core.Path.{◌≡◌, sym, ap, ◌∙◌, subst}
use mathlib.Core.List.{List}
use Prim.Native.Nat.{ℕ}
use Rattle.queue_words.specs.Header.{totals_at, put_totals, FitsTotals}
use Rattle.queue_words.specs.declared.header.Totals.{Totals}
use Rattle.queue_words.proofs.Laws
use Rattle.queue_model.specs.Types.{Stream, Scheduler}
use Rattle.payload_store.specs.Words.{used_of, gaps_of}
use Rattle.stream_scheduler.specs.Link.{model_scheduler}
use Rattle.queue_state.specs.Model.{streams_in}
use Rattle.queue_state.specs.Good.{Shape}
use Rattle.queue_state.proofs.Singles.{Unmoved, shape_totals}
use Rattle.stream_scheduler.proofs.Link.{scheduler_same}
use Rattle.queue_state.proofs.Rooms.{AllKnown, Listing}

-- Totals that count the same.
pub record Counts (ws : List ℕ) (t : Totals) : Type 0 where
  pub fits : FitsTotals t
  pub known : t.known ≡ (totals_at ws).known
  pub waiting : t.waiting ≡ (totals_at ws).waiting
  pub free : t.free ≡ (totals_at ws).free
  pub used : t.used ≡ used_of ws
  pub gaps : t.gaps ≡ gaps_of ws

module _ (ws st : List ℕ) (g : Shape ws st) (t : Totals) (c : Counts ws t) where
  pub begun : Unmoved ws st g (put_totals ws t)
  begun = shape_totals ws st t g c.fits c.known c.waiting c.free c.used c.gaps

  pub begun_totals : totals_at (put_totals ws t) ≡ t
  begun_totals = Laws.totals_at_put ws t g.long c.fits

  pub begun_known : (totals_at (put_totals ws t)).known ≡ (totals_at ws).known
  begun_known = ap (λ (x : Totals). x.known) begun_totals ∙ c.known

  pub begun_scheduler : model_scheduler (put_totals ws t) ≡ model_scheduler ws
  begun_scheduler = (scheduler_same ws (put_totals ws t) (Laws.whole_put_totals ws t) (Laws.options_put_totals ws t) (Laws.scheduler_put_totals ws t) (Laws.active_put_totals ws t) (Laws.leasts_put_totals ws t) g.schedules).1

  pub begun_listing : AllKnown ws st → AllKnown (put_totals ws t) st
  begun_listing a =
      subst (λ (ss : List Stream). Listing ss (model_scheduler (put_totals ws t)).active) (sym begun.streams)
      (subst (λ (sc : Scheduler). Listing (streams_in ws st) sc.active) (sym begun_scheduler) a)
