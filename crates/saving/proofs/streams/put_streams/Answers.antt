-- `saving::streams::put_streams` meets its contract: the rest written from here on is the whole written from the start on. Assumes nothing.
use native.Mathlib.Omega.{arith}
use Rattle.saving.proofs.Loops.{streams_room, streams_next, streams_end}
use Rattle.saving.proofs.streams.put_streams.Goals as goal

pub put_known-pos-requires : goal.put_known-pos-requires
put_known-pos-requires c = (omega (arith, c.loop-i-test.true, c.requires.0), c.requires.1 _ c.loop-i-test.true, streams_room c.args.queue.now c.args.buffer.now c.args.at c.args.known _ c.loop-i.pos c.loop-i.i c.loop-i.invariant c.loop-i-test.true)

pub loop-i-preserved : goal.loop-i-preserved
loop-i-preserved c = streams_next c.args.queue.now c.args.buffer.now c.args.at c.args.known _ c.loop-i.pos c.loop-i.i c.loop-i.invariant _ _ c.loop-i-test.true c.put_known-pos.ensures.0 c.put_known-pos.ensures.1

pub returns : goal.returns
returns c = streams_end c.args.queue.now c.args.buffer.now c.args.at c.args.known _ _ c.loop-i.i c.loop-i.invariant c.loop-i-test.false
