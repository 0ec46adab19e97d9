-- `receiver_words::index::row_before` meets its contract: what is left to look through from here is what was to look through. Assumes nothing.
use Rattle.receiver_words.proofs.Steps.{before_none, before_here, before_next, before_end}
use Rattle.receiver_words.proofs.index.row_before.Goals as goal

pub returns-then-p-ge4096 : goal.returns-then-p-ge4096
returns-then-p-ge4096 c = before_none _ _ _ _ _ _ c.loop-test.true c.if-p-ge4096.true c.loop.invariant

pub returns-then-next-i : goal.returns-then-next-i
returns-then-next-i c = before_here _ _ _ _ _ _ _ c.loop-test.true c.if-p-ge4096.false c.load_link-next.ensures c.if-next-i.true c.loop.invariant

pub loop-preserved : goal.loop-preserved
loop-preserved c = before_next _ _ _ _ _ _ _ c.loop-test.true c.if-p-ge4096.false c.load_link-next.ensures c.if-next-i.false c.loop.invariant

pub returns : goal.returns
returns c = before_end _ _ _ _ _ _ c.loop-test.false c.loop.invariant
