-- `trace_text::payload::fill` meets its contract: the bytes so far and the bytes still to come are the payload. Assumes nothing.
use Rattle.trace_text.proofs.Payloads.{fill_next, fill_end}
use Rattle.std.proofs.Common.{rules}
use Rattle.trace_text.proofs.payload.fill.Goals as goal

pub loop-i-preserved : goal.loop-i-preserved
loop-i-preserved c =
    (search rules, fill_next c.loop-i.payload _ _ _ _ _ _ (search rules) (search rules) c.next-x.ensures.0 c.byte_of.ensures c.loop-i.invariant.1)

pub returns : goal.returns
returns c = fill_end c.loop-i.payload _ _ _ _ (search rules) (search rules) c.loop-i.invariant.1
