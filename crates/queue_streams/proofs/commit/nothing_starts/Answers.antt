-- `queue_streams::commit::nothing_starts` meets its contract: each return is a case of `nothing_starts`. Assumes nothing.
use Rattle.queue_streams.proofs.Commits.{starts_active, starts_known, starts_none}
use Rattle.queue_streams.proofs.commit.nothing_starts.Goals as goal

-- `queue_streams::commit::nothing_starts` meets its contract: each return is a case of `nothing_starts`. Assumes nothing.
pub returns-then-s-gt-STREAMS : goal.returns-then-s-gt-STREAMS
returns-then-s-gt-STREAMS c = starts_active _ _ c.load_scheduler_state-s.ensures c.if-s-gt-STREAMS.true

pub returns-then-t-gt-STREAMS : goal.returns-then-t-gt-STREAMS
returns-then-t-gt-STREAMS c = starts_known _ _ c.load_scheduler_state-s.ensures c.if-s-gt-STREAMS.false _ c.load_totals-t.ensures c.if-t-gt-STREAMS.true

pub returns : goal.returns
returns c = starts_none _ _ c.load_scheduler_state-s.ensures c.if-s-gt-STREAMS.false _ c.load_totals-t.ensures _ c.if-t-gt-STREAMS.false c.all_quiet.ensures
