-- `owned_streams::questions::count_paused` meets its contract: so many are paused among the first i streams. Assumes nothing.
use mathlib.Core.Path.{◌∙◌}
use native.Mathlib.Omega.{arith}
use Rattle.owned_streams.proofs.Own.{row_of, none_counted, counted_on, counted_off}
use Rattle.owned_streams.proofs.questions.count_paused.Goals as goal
use Rattle.owned_streams.proofs.questions.count_paused.Goals.{else-paused, then-paused}

pub loop-i-init : goal.loop-i-init
loop-i-init c = (none_counted _, omega arith)

pub loop-i-preserved : goal.loop-i-preserved
loop-i-preserved c = (elim c.if-paused.branch [ then-paused w ↦ w.count-is ∙ counted_on _ _ _ _ _ _ c.loop-i.invariant.0 c.load_known-k.ensures (row_of _ _ _ _ c.requires.0 c.loop-i-test.true c.load_known-k.ensures) c.load_stream-s.ensures c.is_paused-paused.ensures w.if-paused.true | else-paused w ↦ w.count-is ∙ counted_off _ _ _ _ _ _ c.loop-i.invariant.0 c.load_known-k.ensures (row_of _ _ _ _ c.requires.0 c.loop-i-test.true c.load_known-k.ensures) c.load_stream-s.ensures c.is_paused-paused.ensures w.if-paused.false ], elim c.if-paused.branch [ then-paused w ↦ omega (arith, w.count-is, c.loop-i.invariant.1) | else-paused w ↦ omega (arith, w.count-is, c.loop-i.invariant.1) ])
