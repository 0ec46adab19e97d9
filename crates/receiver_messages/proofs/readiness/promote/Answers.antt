-- `receiver_messages::readiness::promote` meets its contract: what is left to promote from here is what was to promote. Assumes nothing.
use Rattle.receiver_messages.proofs.Steps.{promote_none, promote_next, promote_end}
use Rattle.receiver_messages.proofs.readiness.promote.Goals as goal

pub returns-then-i-ge4096 : goal.returns-then-i-ge4096
returns-then-i-ge4096 c = promote_none _ _ _ _ _ _ _ _ c.loop-test.true c.number_key-key.ensures c.find_row-i.ensures c.if-i-ge4096.true c.loop.invariant

pub loop-preserved : goal.loop-preserved
loop-preserved c = promote_next _ _ _ _ _ _ _ _ _ _ c.loop-test.true c.number_key-key.ensures c.find_row-i.ensures c.if-i-ge4096.false c.take_message.ensures c.next_turn-number.ensures c.loop.invariant

pub returns : goal.returns
returns c = promote_end _ _ _ _ _ _ c.loop-test.false c.loop.invariant
