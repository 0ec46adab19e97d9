-- `queue_streams::restart::commit_reset_streams` meets its contract: where nothing starts to wait by `quiet_commit`, else it is `reopen`. Assumes nothing.
use Rattle.queue_streams.proofs.Commits.{quiet_commit, starts_few}
use Rattle.queue_streams.proofs.restart.commit_reset_streams.Goals as goal

-- `queue_streams::restart::commit_reset_streams` meets its contract: where nothing starts to wait by `quiet_commit`, else it is `reopen`. Assumes nothing.
pub commit_all-requires : goal.commit_all-requires
commit_all-requires c =
    starts_few _ _ _ c.whole.ensures c.nothing_starts-quiet.ensures
    c.if-quiet.true c.load_totals-t.ensures

pub returns-then-quiet : goal.returns-then-quiet
returns-then-quiet c =
    quiet_commit _ _ _ _ c.whole.ensures
    c.nothing_starts-quiet.ensures c.if-quiet.true
    c.load_totals-t.ensures c.commit_all.ensures
