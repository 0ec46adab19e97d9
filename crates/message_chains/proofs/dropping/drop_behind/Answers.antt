use Rattle.message_chains.specs.Dropping.{behind_dropped}
use Rattle.message_chains.proofs.Goes.{behind_may}
use Rattle.message_chains.proofs.Lemmas.{behind_refused}
use Rattle.message_chains.proofs.dropping.drop_behind.Goals as goal

-- `message_chains::dropping::drop_behind` meets its contract: each return is what its definition says, by what the calls ensure and the tests taken.
-- Assumes nothing.
pub drop_head-k1-requires : goal.drop_head-k1-requires
drop_head-k1-requires c = (c.requires.0, c.requires.1, behind_may _ _ _ _ _ _ _ c.requires.1 c.schedule_behind-scheduled.ensures c.requires.2)

pub returns-then-scheduled : goal.returns-then-scheduled
unfolding behind_dropped
returns-then-scheduled c =
    rw (
      ← c.schedule_behind-scheduled.ensures,
      c.if-scheduled.true,
      ← c.end_pending-after.ensures,
      ← c.drop_head-k1.ensures.0,
      ← c.drop_head-k1.ensures.1,
    )

pub returns : goal.returns
unfolding behind_dropped
returns c =
    rw (
      ← c.schedule_behind-scheduled.ensures,
      c.if-scheduled.false,
      (behind_refused _ _ _ _ _ _ c.schedule_behind-scheduled.ensures c.if-scheduled.false),
    )
