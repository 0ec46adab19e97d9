-- `receiver_messages::walks::mark_whole` meets its contract: what is left to mark from here is what was to mark. Assumes nothing.
use Rattle.receiver_messages.proofs.Steps.{mark_last, mark_none, mark_next, mark_end}
use Rattle.receiver_messages.proofs.walks.mark_whole.Goals as goal

pub returns-then-f : goal.returns-then-f
returns-then-f c = mark_last _ _ _ _ _ _ _ c.loop-test.true c.store_link.ensures c.load_fragment-f.ensures c.if-f.true c.loop.invariant.1

pub returns-then-j-ge4096 : goal.returns-then-j-ge4096
returns-then-j-ge4096 c = mark_none _ _ _ _ _ _ _ _ c.loop-test.true c.store_link.ensures c.load_fragment-f.ensures c.if-f.false c.part_after-j.ensures c.if-j-ge4096.true c.loop.invariant.1

pub loop-preserved : goal.loop-preserved
loop-preserved c = (c.if-j-ge4096.false, mark_next _ _ _ _ _ _ _ _ c.loop-test.true c.store_link.ensures c.load_fragment-f.ensures c.if-f.false c.part_after-j.ensures c.if-j-ge4096.false c.loop.invariant.1)

pub returns : goal.returns
returns c = mark_end _ _ _ _ _ c.loop-test.false c.loop.invariant.1
