-- `queue_restarts::ready::mark_all` meets its contract: the first i streams are done. Assumes nothing.
use Rattle.queue_restarts.proofs.Loops.{marked_start, marked_next}
use Rattle.queue_restarts.proofs.ready.mark_all.Goals as goal

pub loop-i-init : goal.loop-i-init
loop-i-init c = marked_start _

pub loop-i-preserved : goal.loop-i-preserved
loop-i-preserved c = marked_next _ _ _ _ _ c.loop-i.invariant c.load_known-k.ensures c.mark.ensures
