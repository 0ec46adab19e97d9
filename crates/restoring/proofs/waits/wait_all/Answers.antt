-- `restoring::waits::wait_all` meets its contract: the first i streams are done. Assumes nothing.
use Rattle.restoring.proofs.Loops.{waits_start, waits_next}
use Rattle.restoring.proofs.waits.wait_all.Goals as goal

pub loop-i-init : goal.loop-i-init
loop-i-init c = waits_start _ _

pub loop-i-preserved : goal.loop-i-preserved
loop-i-preserved c = waits_next _ _ _ _ _ _ c.loop-i.invariant c.load_known-k.ensures c.wait_at.ensures
