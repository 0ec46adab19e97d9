-- `receiver_messages::walks::first_row` meets its contract: what is left to walk from here is what was to walk. Assumes nothing.
use Rattle.receiver_messages.proofs.Steps.{first_here, first_none, first_next, first_end}
use Rattle.receiver_messages.proofs.walks.first_row.Goals as goal

pub returns-then-first : goal.returns-then-first
returns-then-first c = first_here _ _ _ _ _ _ _ c.loop-test.true c.load_fragment-f.ensures c.begins-first.ensures c.if-first.true c.loop.invariant.1

pub returns-then-j-ge4096 : goal.returns-then-j-ge4096
returns-then-j-ge4096 c = first_none _ _ _ _ _ _ _ _ c.loop-test.true c.load_fragment-f.ensures c.begins-first.ensures c.if-first.false c.row_before-j.ensures c.if-j-ge4096.true c.loop.invariant.1

pub loop-preserved : goal.loop-preserved
loop-preserved c = (c.if-j-ge4096.false, first_next _ _ _ _ _ _ _ _ c.loop-test.true c.load_fragment-f.ensures c.begins-first.ensures c.if-first.false c.row_before-j.ensures c.if-j-ge4096.false c.loop.invariant.1)

pub returns : goal.returns
returns c = first_end _ _ _ _ _ c.loop-test.false c.loop.invariant.1
