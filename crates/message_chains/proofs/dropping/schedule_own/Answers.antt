use Rattle.message_chains.specs.Dropping.{scheduled_behind}
use Rattle.message_chains.proofs.Own.{own_ends, own_waits}
use Rattle.message_chains.proofs.dropping.schedule_own.Goals as goal

-- `message_chains::dropping::schedule_own` meets its contract: each return is what its definition says, by what the calls ensure and the tests taken.
-- Assumes nothing.
pub remove_own-requires : goal.remove_own-requires
remove_own-requires c = own_ends _ _ _ _ c.requires _ c.is_pending-pending.ensures c.if-pending.true

pub returns-then-pending : goal.returns-then-pending
unfolding scheduled_behind
returns-then-pending c =
    rw (
      ← c.is_pending-pending.ensures,
      c.if-pending.true,
      ← c.remove_own.ensures,
    )

pub set_own-requires : goal.set_own-requires
set_own-requires c = own_waits _ _ _ _ c.requires _ c.is_pending-pending.ensures _ _ c.if-pending.false c.head_size-bytes.ensures c.parameters_in-p.ensures

pub returns : goal.returns
unfolding scheduled_behind
returns c =
    rw (
      ← c.is_pending-pending.ensures,
      c.if-pending.false,
      ← c.head_size-bytes.ensures,
      ← c.parameters_in-p.ensures,
      ← c.set_own.ensures,
    )
