use Rattle.message_chains.specs.Dropping.{scheduled_behind}
use Rattle.message_chains.proofs.dropping.schedule_behind.Goals as goal

-- `message_chains::dropping::schedule_behind` meets its contract: each return is what its definition says, by what the calls ensure and the tests taken.
-- Assumes nothing.
pub returns-then-pending : goal.returns-then-pending
unfolding scheduled_behind
returns-then-pending c =
    rw (
      ← c.is_pending-pending.ensures,
      c.if-pending.true,
      ← c.remove_stream.ensures,
    )

pub returns : goal.returns
unfolding scheduled_behind
returns c =
    rw (
      ← c.is_pending-pending.ensures,
      c.if-pending.false,
      ← c.head_size-bytes.ensures,
      ← c.parameters_in-p.ensures,
      ← c.set_bytes_remaining.ensures,
    )
