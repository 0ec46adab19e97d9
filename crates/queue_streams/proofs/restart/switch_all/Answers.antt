-- `queue_streams::restart::switch_all` meets its contract: the first i streams are done. Assumes nothing.
use Rattle.queue_streams.proofs.Restarts.{switched_start, switched_next}
use Rattle.queue_streams.proofs.restart.switch_all.Goals as goal

pub loop-i-init : goal.loop-i-init
loop-i-init c = switched_start _ _

pub loop-i-preserved : goal.loop-i-preserved
loop-i-preserved c = switched_next _ _ _ _ _ _ c.loop-i.invariant c.load_known-k.ensures c.switch_at.ensures
