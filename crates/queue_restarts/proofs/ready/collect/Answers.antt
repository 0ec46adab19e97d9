-- `queue_restarts::ready::collect` meets its contract: the ids of the paused ones among the first i streams, at most i, and what is asked is whether the places from position i on fit. Assumes nothing.
use mathlib.Core.Path.{ap₂, ◌∙◌}
use native.Mathlib.Omega.{arith}
use Rattle.queue_restarts.proofs.Loops.{fit_start, fit_not, fit_next, fit_end, gathered, collected_start, collected_more, collected_same, collected_end, or16_not, or16_end}
use Rattle.queue_restarts.proofs.ready.collect.Goals as goal
use Rattle.queue_restarts.proofs.ready.collect.Goals.{else-paused, then-paused}

pub loop-i-init : goal.loop-i-init
loop-i-init c = (omega arith, collected_start _, fit_start _ _)

pub returns-then-k-gt-LAST_STREAM : goal.returns-then-k-gt-LAST_STREAM
returns-then-k-gt-LAST_STREAM c =
    or16_not _ _ (fit_not _ _ _ c.loop-i.invariant.2 c.loop-i-test.true _ c.load_known-k.ensures (omega (arith, c.if-k-gt-LAST_STREAM.true)))

pub loop-i-preserved : goal.loop-i-preserved
loop-i-preserved c =
    let inv = c.loop-i.invariant in (
      elim c.if-paused.branch [ then-paused w ↦ omega (arith, w.count-is, inv.0) | else-paused w ↦ omega (arith, w.count-is, inv.0) ],
      elim c.if-paused.branch [ then-paused w ↦ ap₂ gathered w.count-is w.ids-is ∙ collected_more _ _ _ _ inv.1 _ c.load_known-k.ensures _ c.paused_at-paused.ensures w.if-paused.true | else-paused w ↦ ap₂ gathered w.count-is w.ids-is ∙ collected_same _ _ _ _ inv.1 _ c.load_known-k.ensures _ c.paused_at-paused.ensures w.if-paused.false ],
      fit_next _ _ _ inv.2 c.loop-i-test.true _ c.load_known-k.ensures (omega (arith, c.if-k-gt-LAST_STREAM.false)),
    )

pub returns : goal.returns
returns c =
    let inv = c.loop-i.invariant in
    or16_end _ _ _ (fit_end _ _ _ inv.2 c.loop-i-test.false) (collected_end _ _ _ _ inv.1 (omega arith) c.loop-i-test.false)
