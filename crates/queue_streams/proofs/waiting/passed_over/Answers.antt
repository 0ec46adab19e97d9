use Rattle.queue_streams.specs.Waiting.{passed_over}
use Rattle.queue_streams.proofs.waiting.passed_over.Goals as goal

-- `queue_streams::waiting::passed_over` meets its contract: each return is what its definition says, by what the calls ensure and the tests taken.
-- Assumes nothing.
pub returns-then-all : goal.returns-then-all
unfolding passed_over
returns-then-all c =
    rw
    (
    c.if-all.true
    )

pub returns : goal.returns
unfolding passed_over
returns c =
    rw (
      c.if-all.false,
      ← c.is_resetting-resetting.ensures,
    )
