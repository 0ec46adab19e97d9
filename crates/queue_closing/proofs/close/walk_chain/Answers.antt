-- `queue_closing::close::walk_chain` meets its contract: what the test finds from the start on is what it finds from here on. Assumes nothing.
use Rattle.queue_closing.proofs.Loops.{walk_out, walk_next, walk_end}
use Rattle.queue_closing.proofs.close.walk_chain.Goals as goal

pub returns-then-w-gt-LAST_MESSAGE : goal.returns-then-w-gt-LAST_MESSAGE
returns-then-w-gt-LAST_MESSAGE c = walk_out _ _ 1024 _ _ c.loop-step.invariant c.loop-step-test.true c.if-w-gt-LAST_MESSAGE.true

pub loop-step-preserved : goal.loop-step-preserved
loop-step-preserved c = walk_next _ _ 1024 _ _ c.loop-step.invariant _ _ c.loop-step-test.true c.if-w-gt-LAST_MESSAGE.false c.load_item-m.ensures c.walk_item-w.ensures

pub returns : goal.returns
returns c = walk_end _ _ 1024 _ _ c.loop-step.invariant c.loop-step-test.false
