-- `saving::streams::put_known` meets its contract: no record, or one. Assumes nothing.
use native.Mathlib.Omega.{arith}
use Rattle.saving.proofs.Loops.{known_plain, known_long, known_put}
use Rattle.saving.proofs.streams.put_known.Goals as goal

pub returns-then-plain : goal.returns-then-plain
returns-then-plain c = known_plain c.args.queue.now c.args.buffer.now c.args.at c.args.i _ _ _ _ c.load_known-k.ensures c.load_stream-s.ensures c.load_options-o.ensures c.is_plain-plain.ensures c.if-plain.true

pub put_stream-requires : goal.put_stream-requires
put_stream-requires c = omega (arith, c.requires.2, known_long c.args.queue.now c.args.buffer.now c.args.at c.args.i _ _ _ _ c.load_known-k.ensures c.load_stream-s.ensures c.load_options-o.ensures c.is_plain-plain.ensures c.if-plain.false)

pub returns : goal.returns
returns c = known_put c.args.queue.now c.args.buffer.now c.args.at c.args.i _ _ _ _ c.load_known-k.ensures c.load_stream-s.ensures c.load_options-o.ensures c.is_plain-plain.ensures _ c.if-plain.false c.put_stream.ensures
