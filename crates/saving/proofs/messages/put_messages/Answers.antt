-- `saving::messages::put_messages` meets its contract: the rest written from here on is the whole written from the start on. Assumes nothing.
use native.Mathlib.Omega.{arith}
use Rattle.saving.proofs.Loops.{messages_room, messages_next, messages_end}
use Rattle.saving.proofs.messages.put_messages.Goals as goal

pub put_queue-pos-requires : goal.put_queue-pos-requires
put_queue-pos-requires c = (omega (arith, c.loop-i-test.true, c.requires.0), c.requires.1 _ c.loop-i-test.true, messages_room c.args.queue.now c.args.store.now c.args.time c.args.buffer.now c.args.at c.args.known _ c.loop-i.pos c.loop-i.i c.loop-i.invariant c.loop-i-test.true)

pub loop-i-preserved : goal.loop-i-preserved
loop-i-preserved c = messages_next c.args.queue.now c.args.store.now c.args.time c.args.buffer.now c.args.at c.args.known _ c.loop-i.pos c.loop-i.i c.loop-i.invariant _ _ c.loop-i-test.true c.put_queue-pos.ensures.0 c.put_queue-pos.ensures.1

pub returns : goal.returns
returns c = messages_end c.args.queue.now c.args.store.now c.args.time c.args.buffer.now c.args.at c.args.known _ _ c.loop-i.i c.loop-i.invariant c.loop-i-test.false
