-- `queue_streams::commit::commit_all` meets its contract: the first i streams are done. Assumes nothing.
use Rattle.queue_streams.proofs.Commits.{committed_start, committed_next}
use Rattle.queue_streams.proofs.commit.commit_all.Goals as goal

pub loop-i-init : goal.loop-i-init
loop-i-init c = committed_start _

pub loop-i-preserved : goal.loop-i-preserved
loop-i-preserved c = committed_next _ _ _ _ _ c.loop-i.invariant c.load_known-k.ensures c.commit_at.ensures
