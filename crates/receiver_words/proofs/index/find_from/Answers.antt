-- `receiver_words::index::find_from` meets its contract: what is left to look through from here is what was to look through. Assumes nothing.
use Rattle.receiver_words.proofs.Steps.{find_none, find_here, find_next, find_end}
use Rattle.receiver_words.proofs.index.find_from.Goals as goal

pub returns-then-p-ge4096 : goal.returns-then-p-ge4096
returns-then-p-ge4096 c = find_none _ _ _ _ _ _ c.loop-test.true c.if-p-ge4096.true c.loop.invariant

pub returns-then-same : goal.returns-then-same
returns-then-same c = find_here _ _ _ _ _ _ _ _ c.loop-test.true c.if-p-ge4096.false c.load_fragment-g.ensures c.same_key-same.ensures c.if-same.true c.loop.invariant

pub loop-preserved : goal.loop-preserved
loop-preserved c = find_next _ _ _ _ _ _ _ _ _ c.loop-test.true c.if-p-ge4096.false c.load_fragment-g.ensures c.same_key-same.ensures c.if-same.false c.load_link-p.ensures c.loop.invariant

pub returns : goal.returns
returns c = find_end _ _ _ _ _ _ c.loop-test.false c.loop.invariant
