-- `saving::messages::put_chain` meets its contract: the rest written from here on is the whole written from the start on. Assumes nothing.
use mathlib.Core.Path.{ap}
use native.Mathlib.Omega.{arith}
use Rattle.queue_words.specs.declared.items.Item.{Item}
use Rattle.saving.proofs.Loops.{going_out, going_end, going_item, going_room, going_next}
use Rattle.saving.proofs.messages.put_chain.Goals as goal

pub returns-then-place-gt-LAST_MESSAGE : goal.returns-then-place-gt-LAST_MESSAGE
returns-then-place-gt-LAST_MESSAGE c = going_out _ _ _ _ _ _ _ _ _ _ 1025 _ c.loop-i.invariant c.if-place-gt-LAST_MESSAGE.true

pub put_item-requires : goal.put_item-requires
put_item-requires c = (omega (arith, c.if-place-gt-LAST_MESSAGE.false), going_item _ _ _ _ _ _ _ _ _ _ 1025 _ c.loop-i.invariant c.loop-i-test.true c.if-place-gt-LAST_MESSAGE.false, going_room _ _ _ _ _ _ _ _ _ _ 1025 _ c.loop-i.invariant c.loop-i-test.true c.if-place-gt-LAST_MESSAGE.false)

pub overflow_add-pos : goal.overflow_add-pos
overflow_add-pos c = omega (arith, (going_item _ _ _ _ _ _ _ _ _ _ 1025 _ c.loop-i.invariant c.loop-i-test.true c.if-place-gt-LAST_MESSAGE.false).small, ap (λ (z : Item). z.length) c.load_item-m.ensures)

pub overflow_add-pos-in-loop-i : goal.overflow_add-pos-in-loop-i
overflow_add-pos-in-loop-i c = omega (arith, going_room _ _ _ _ _ _ _ _ _ _ 1025 _ c.loop-i.invariant c.loop-i-test.true c.if-place-gt-LAST_MESSAGE.false, ap (λ (z : Item). z.length) c.load_item-m.ensures)

pub loop-i-preserved : goal.loop-i-preserved
loop-i-preserved c = going_next _ _ _ _ _ _ _ _ _ _ 1025 _ c.loop-i.invariant c.loop-i-test.true c.if-place-gt-LAST_MESSAGE.false _ _ c.load_item-m.ensures c.put_item.ensures

pub returns : goal.returns
returns c = going_end _ _ _ _ _ _ _ _ _ _ 1025 _ c.loop-i.invariant c.loop-i-test.false
