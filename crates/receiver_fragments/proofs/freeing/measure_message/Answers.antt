-- `receiver_fragments::freeing::measure_message` meets its contract: what is left to measure from here is what was to measure. Assumes nothing.
use native.Mathlib.Omega.{arith}
use Rattle.receiver_fragments.proofs.Steps.{measure_out, measure_over, measure_last, measure_none, measure_next, measure_end}
use Rattle.receiver_fragments.proofs.freeing.measure_message.Goals as goal

pub returns-then-out : goal.returns-then-out
returns-then-out c = (measure_out _ _ _ _ _ _ _ _ _ _ c.loop-test.true c.load_link-place.ensures c.load_link-size.ensures c.misplaced-out.ensures c.loop.invariant.1.1 c.if-out.true, c.loop.invariant.1.0)

pub returns-then-size-left : goal.returns-then-size-left
returns-then-size-left c = (measure_over _ _ _ _ _ _ _ _ _ _ c.loop-test.true c.load_link-place.ensures c.load_link-size.ensures c.misplaced-out.ensures c.loop.invariant.1.1 c.if-out.false c.if-size-left.true, c.loop.invariant.1.0)

pub returns-then-f : goal.returns-then-f
returns-then-f c = (measure_last _ _ _ _ _ _ _ _ _ _ c.loop-test.true c.load_link-place.ensures c.load_link-size.ensures c.misplaced-out.ensures c.loop.invariant.1.1 _ c.if-out.false c.if-size-left.false c.load_fragment-f.ensures c.if-f.true, let h = c.loop.invariant.1.0 in omega arith)

pub returns-then-j-ge4096 : goal.returns-then-j-ge4096
returns-then-j-ge4096 c = (measure_none _ _ _ _ _ _ _ _ _ _ c.loop-test.true c.load_link-place.ensures c.load_link-size.ensures c.misplaced-out.ensures c.loop.invariant.1.1 _ c.if-out.false c.if-size-left.false c.load_fragment-f.ensures _ c.if-f.false c.part_after-j.ensures c.if-j-ge4096.true, let h = c.loop.invariant.1.0 in omega arith)

pub loop-preserved : goal.loop-preserved
loop-preserved c = (c.if-j-ge4096.false, ((let h = c.loop.invariant.1.0 in omega arith), measure_next _ _ _ _ _ _ _ _ _ _ c.loop-test.true c.load_link-place.ensures c.load_link-size.ensures c.misplaced-out.ensures c.loop.invariant.1.1 _ c.if-out.false c.if-size-left.false c.load_fragment-f.ensures _ c.if-f.false c.part_after-j.ensures c.if-j-ge4096.false))

pub returns : goal.returns
returns c = (measure_end _ _ _ _ _ _ _ c.loop-test.false c.loop.invariant.1.1, c.loop.invariant.1.0)
