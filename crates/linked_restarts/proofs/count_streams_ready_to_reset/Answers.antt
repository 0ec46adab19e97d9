-- `linked_restarts::count_streams_ready_to_reset` meets its contract: what the call promises of the words implies the rest (proofs/Contracts.antt).
-- Assumes nothing.
use Rattle.linked_restarts.proofs.Contracts.{count_meets}
use Rattle.linked_restarts.proofs.count_streams_ready_to_reset.Goals as goal

pub returns : goal.returns
returns c = count_meets _ _ c.count_streams_ready_to_reset.ensures
