-- `queue_streams::restart::reopen_all` meets its contract: the first i streams are done. Assumes nothing.
use Rattle.queue_streams.proofs.Restarts.{reopened_start, reopened_next}
use Rattle.queue_streams.proofs.restart.reopen_all.Goals as goal

pub loop-i-init : goal.loop-i-init
loop-i-init c = reopened_start _ _ _

pub loop-i-preserved : goal.loop-i-preserved
loop-i-preserved c = reopened_next _ _ _ _ _ _ _ c.loop-i.invariant c.load_known-k.ensures c.reopen_at.ensures
