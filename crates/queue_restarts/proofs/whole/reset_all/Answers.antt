-- `queue_restarts::whole::reset_all` meets its contract: the first i streams are done. Assumes nothing.
use Rattle.queue_restarts.proofs.Loops.{reset_start, reset_next}
use Rattle.queue_restarts.proofs.whole.reset_all.Goals as goal

pub loop-i-init : goal.loop-i-init
loop-i-init c = reset_start _ _ _

pub loop-i-preserved : goal.loop-i-preserved
loop-i-preserved c = reset_next _ _ _ _ _ _ _ c.loop-i.invariant c.load_known-k.ensures c.reset_at.ensures
