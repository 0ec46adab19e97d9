-- `restoring::recall::first_half_sent` meets its contract: what is asked is which of the streams from position i on is the first. Assumes nothing.
use Rattle.restoring.proofs.Loops.{half_here, half_next, half_end}
use Rattle.restoring.proofs.recall.first_half_sent.Goals as goal

pub returns-then-half : goal.returns-then-half
returns-then-half c =
    half_here _ _ _ c.loop-i.invariant c.loop-i-test.true _ c.load_known-k.ensures _ c.is_half_sent-half.ensures c.if-half.true

pub loop-i-preserved : goal.loop-i-preserved
loop-i-preserved c =
    half_next _ _ _ c.loop-i.invariant c.loop-i-test.true _ c.load_known-k.ensures _ c.is_half_sent-half.ensures c.if-half.false

pub returns : goal.returns
returns c = half_end _ _ _ c.loop-i.invariant c.loop-i-test.false
