-- `linked_restarts::get_streams_ready_to_reset` meets its contract: what the call promises of the words implies the rest (proofs/Contracts.antt).
-- Assumes nothing.
use Rattle.linked_restarts.proofs.Contracts.{ready_meets}
use Rattle.linked_restarts.proofs.get_streams_ready_to_reset.Goals as goal

pub returns : goal.returns
returns c = ready_meets _ _ _ c.get_streams_ready_to_reset.ensures
