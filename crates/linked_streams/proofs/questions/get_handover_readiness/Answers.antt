use Rattle.linked_streams.proofs.Asks.{readiness_meets}
use Rattle.linked_streams.proofs.questions.get_handover_readiness.Goals as goal

-- `linked_streams::questions::get_handover_readiness` meets its contract: what the call promises of the words implies the rest (proofs/Asks.antt).
-- Assumes nothing.
pub returns : goal.returns
returns c = readiness_meets _ _ c.get_handover_readiness.ensures
