-- `receiver_messages::walks::reaches_last` meets its contract: what is left to walk from here is what was to walk. Assumes nothing.
use Rattle.receiver_messages.proofs.Steps.{reach_last, reach_none, reach_next, reach_end}
use Rattle.receiver_messages.proofs.walks.reaches_last.Goals as goal

pub returns-then-f : goal.returns-then-f
returns-then-f c = reach_last _ _ _ _ _ _ c.loop-test.true c.load_fragment-f.ensures c.if-f.true c.loop.invariant.1

pub returns-then-j-ge4096 : goal.returns-then-j-ge4096
returns-then-j-ge4096 c = reach_none _ _ _ _ _ _ _ c.loop-test.true c.load_fragment-f.ensures c.if-f.false c.row_after-j.ensures c.if-j-ge4096.true c.loop.invariant.1

pub loop-preserved : goal.loop-preserved
loop-preserved c = (c.if-j-ge4096.false, reach_next _ _ _ _ _ _ _ c.loop-test.true c.load_fragment-f.ensures c.if-f.false c.row_after-j.ensures c.if-j-ge4096.false c.loop.invariant.1)

pub returns : goal.returns
returns c = reach_end _ _ _ _ _ c.loop-test.false c.loop.invariant.1
