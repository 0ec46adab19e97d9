-- `priority_plan::lists::named_twice` meets its contract: what is asked is whether an id from place i on is named again. Assumes nothing.
use Rattle.priority_plan.proofs.Loops.{twice_found, twice_next, twice_end}
use Rattle.priority_plan.proofs.lists.named_twice.Goals as goal

pub returns-then-again : goal.returns-then-again
returns-then-again c = twice_found _ _ c.loop-i.invariant c.loop-i-test.true _ c.named_later-again.ensures c.if-again.true

pub loop-i-preserved : goal.loop-i-preserved
loop-i-preserved c = twice_next _ _ c.loop-i.invariant c.loop-i-test.true _ c.named_later-again.ensures c.if-again.false

pub returns : goal.returns
returns c = twice_end _ _ c.loop-i.invariant c.loop-i-test.false
