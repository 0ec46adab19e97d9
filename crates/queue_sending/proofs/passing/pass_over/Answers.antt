-- `queue_sending::passing::pass_over` meets its contract: what passing over leaves from here on is what it leaves from the start on. The measure is how
-- many messages
-- may still be dropped. Assumes nothing.
use mathlib.Core.Path.{refl, sym, ap, ◌∙◌}
use Rattle.queue_sending.proofs.Passes.{over_nothing, over_broken, over_chosen, over_none, over_again, over_stopped}
use Rattle.std.proofs.Common.{rules}
use Rattle.std.proofs.lemmas.Result.{err_from_is_err_and}
use Rattle.queue_sending.specs.Own.{look_of}
use Rattle.queue_sending.proofs.passing.pass_over.Goals as goal

pub loop-found-preserved : goal.loop-found-preserved
loop-found-preserved c = (
  search rules,
  over_again _ _ _ _ _ _ (ap look_of (sym c.in-Expired.is) ∙ c.in_ok-found.ensures) _ _ refl c.if-left-eq0.false _ _ _ c.in_ok-count-in-Expired.ensures _ _ refl refl ∙ c.loop-found.invariant.1,
)

pub returns-in_err-count-in-Expired : goal.returns-in_err-count-in-Expired
returns-in_err-count-in-Expired c =
    let p = err_from_is_err_and c.from_residual-in_err-count-in-Expired.result c.from_residual-in_err-count-in-Expired.ensures.1 in
    rw (p.1, p.2) (over_stopped _ _ _ _ _ _ (ap look_of (sym c.in-Expired.is) ∙ c.in_ok-found.ensures) _ _ refl c.if-left-eq0.false _ _ _ c.in_err-count-in-Expired.ensures _ refl ∙ c.loop-found.invariant.1)

pub returns-in-Nothing : goal.returns-in-Nothing
returns-in-Nothing c = over_nothing _ _ _ _ _ _ (ap look_of (sym c.in-Nothing.is) ∙ c.in_ok-found.ensures) refl ∙ c.loop-found.invariant.1

pub returns-in_err-found : goal.returns-in_err-found
returns-in_err-found c =
    let p = err_from_is_err_and c.from_residual.result c.from_residual.ensures.1 in
    rw (p.1, p.2) (over_broken _ _ _ _ _ _ c.in_err-found.ensures refl ∙ c.loop-found.invariant.1)

pub returns-in-Chosen : goal.returns-in-Chosen
returns-in-Chosen c = over_chosen _ _ _ _ _ _ (ap look_of (sym c.in-Chosen.is) ∙ c.in_ok-found.ensures) _ _ _ refl ∙ c.loop-found.invariant.1

pub returns-then-left-eq0 : goal.returns-then-left-eq0
returns-then-left-eq0 c = over_none _ _ _ _ _ _ (ap look_of (sym c.in-Expired.is) ∙ c.in_ok-found.ensures) _ _ refl c.if-left-eq0.true ∙ c.loop-found.invariant.1
