-- `queue_restarts::whole::sum_all` meets its contract: the total of the first i streams. Assumes nothing.
use Rattle.queue_restarts.proofs.Loops.{sum_start, sum_next}
use Rattle.queue_restarts.proofs.whole.sum_all.Goals as goal

pub loop-i-init : goal.loop-i-init
loop-i-init c = sum_start _ _

pub loop-i-preserved : goal.loop-i-preserved
loop-i-preserved c = sum_next _ _ _ _ _ _ c.loop-i.invariant c.load_known-k.ensures c.sum_known-t.ensures
