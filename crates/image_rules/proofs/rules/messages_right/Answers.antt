-- `image_rules::rules::messages_right` meets its contract: what is asked is whether the records from the i-th on keep the rules in what is left. Assumes
-- nothing.
use native.Mathlib.Omega.{arith}
use Rattle.image_rules.proofs.Loops.{messages_short, messages_over, messages_low, messages_wrong, messages_next, messages_end}
use Rattle.image_rules.proofs.rules.messages_right.Goals as goal

pub returns-then-left-lt44 : goal.returns-then-left-lt44
returns-then-left-lt44 c = messages_short _ _ _ _ _ _ _ _ _ c.loop-i.invariant.1 c.loop-i-test.true c.if-left-lt44.true

pub returns-then-left-length : goal.returns-then-left-length
returns-then-left-length c = messages_over _ _ _ _ _ _ _ _ _ c.loop-i.invariant.1 c.loop-i-test.true c.if-left-lt44.false _ c.read_message-m.ensures c.if-left-length.true

pub returns-then-id-least : goal.returns-then-id-least
returns-then-id-least c = messages_low _ _ _ _ _ _ _ _ _ c.loop-i.invariant.1 c.loop-i-test.true c.if-left-lt44.false _ c.read_message-m.ensures c.if-left-length.false c.if-id-least.true

pub loop-i-preserved : goal.loop-i-preserved
loop-i-preserved c = (
  omega (arith, c.loop-i.invariant.0, c.if-left-lt44.false, c.if-left-length.false),
  messages_next _ _ _ _ _ _ _ _ _ c.loop-i.invariant.1 c.loop-i-test.true c.if-left-lt44.false _ c.read_message-m.ensures c.if-left-length.false c.if-id-least.false _ c.message_kept-right.ensures c.if-right.true,
)

pub returns-else-right : goal.returns-else-right
returns-else-right c = messages_wrong _ _ _ _ _ _ _ _ _ c.loop-i.invariant.1 c.loop-i-test.true c.if-left-lt44.false _ c.read_message-m.ensures c.if-left-length.false c.if-id-least.false _ c.message_kept-right.ensures c.if-right.false

pub returns : goal.returns
returns c = messages_end _ _ _ _ _ _ _ _ _ c.loop-i.invariant.1 c.loop-i-test.false
