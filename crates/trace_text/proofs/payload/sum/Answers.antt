-- `trace_text::payload::sum` meets its contract: the sum goes on from the bytes so far. Assumes nothing.
use Rattle.trace_text.proofs.Payloads.{sum_next, sum_end}
use Rattle.std.proofs.Common.{rules}
use Rattle.trace_text.proofs.payload.sum.Goals as goal

pub loop-b-preserved : goal.loop-b-preserved
loop-b-preserved c = (search rules, sum_next c.args.bytes.now _ _ _ _ c.loop-b-test.true c.add_byte-s.ensures.0 c.loop-b.invariant.1)

pub returns : goal.returns
returns c = sum_end c.args.bytes.now _ _ _ c.loop-b-test.false c.loop-b.auto.b-index-end c.loop-b.invariant.1
