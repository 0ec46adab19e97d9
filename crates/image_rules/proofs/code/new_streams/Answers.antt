-- `image_rules::code::new_streams` meets its contract: the sum so far and the new streams of the records from the i-th on are all. Assumes nothing.
use native.Mathlib.Omega.{arith}
use Rattle.image_rules.proofs.Loops.{from_start, from_whole, from_on, new_start, new_next, new_end}
use Rattle.image_rules.proofs.Places.{turn_facts, turn_le}
use Rattle.image_rules.proofs.code.new_streams.Goals as goal

pub loop-i-init : goal.loop-i-init
loop-i-init c = (omega arith, new_start _ _ _ _, omega arith, (λ j h. absurd (omega (arith, h))), from_start _ _ _ _ _ (c.requires.2) (c.requires.4))

pub read_message-m-requires : goal.read_message-m-requires
read_message-m-requires c = from_whole _ _ _ _ _ _ c.loop-i.invariant.4 c.loop-i-test.true

pub overflow_add-sum : goal.overflow_add-sum
overflow_add-sum c = omega (arith, turn_le _ _ _ _ _ (turn_facts _ _ _ _ _ _ _ _ c.requires.1 c.loop-i.invariant.2 c.loop-i.invariant.3 c.loop-i.invariant.4 c.loop-i-test.true _ c.read_message-m.ensures _ c.count_one-one.ensures), c.requires.3, c.loop-i.invariant.0, c.loop-i-test.true)

pub loop-i-preserved : goal.loop-i-preserved
loop-i-preserved c = (
  omega (arith, turn_le _ _ _ _ _ (turn_facts _ _ _ _ _ _ _ _ c.requires.1 c.loop-i.invariant.2 c.loop-i.invariant.3 c.loop-i.invariant.4 c.loop-i-test.true _ c.read_message-m.ensures _ c.count_one-one.ensures), c.loop-i.invariant.0),
  new_next _ _ _ _ _ _ _ _ c.loop-i.invariant.1 c.loop-i-test.true _ c.read_message-m.ensures _ (turn_facts _ _ _ _ _ _ _ _ c.requires.1 c.loop-i.invariant.2 c.loop-i.invariant.3 c.loop-i.invariant.4 c.loop-i-test.true _ c.read_message-m.ensures _ c.count_one-one.ensures).one,
  (turn_facts _ _ _ _ _ _ _ _ c.requires.1 c.loop-i.invariant.2 c.loop-i.invariant.3 c.loop-i.invariant.4 c.loop-i-test.true _ c.read_message-m.ensures _ c.count_one-one.ensures).most,
  (turn_facts _ _ _ _ _ _ _ _ c.requires.1 c.loop-i.invariant.2 c.loop-i.invariant.3 c.loop-i.invariant.4 c.loop-i-test.true _ c.read_message-m.ensures _ c.count_one-one.ensures).past,
  from_on _ _ _ _ _ _ c.loop-i.invariant.4 c.loop-i-test.true _ c.read_message-m.ensures,
)

pub returns : goal.returns
returns c = new_end _ _ _ _ _ _ _ _ c.loop-i.invariant.1 c.loop-i-test.false
