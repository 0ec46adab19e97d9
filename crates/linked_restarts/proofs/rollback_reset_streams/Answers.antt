-- `linked_restarts::rollback_reset_streams` meets its contract: what the call promises of the words implies the rest (proofs/Contracts.antt). Assumes nothing.
use Rattle.linked_restarts.proofs.Contracts.{rollback_meets}
use Rattle.linked_restarts.proofs.rollback_reset_streams.Goals as goal

pub returns : goal.returns
returns c = rollback_meets _ _ _ c.rollback_reset_streams.ensures
