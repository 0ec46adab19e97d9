use Rattle.linked_streams.proofs.Asks.{ready_meets}
use Rattle.linked_streams.proofs.questions.has_streams_ready_to_be_reset.Goals as goal

-- `linked_streams::questions::has_streams_ready_to_be_reset` meets its contract: what the call promises of the words implies the rest
-- (proofs/Asks.antt). Assumes nothing.
pub returns : goal.returns
returns c = ready_meets _ _ c.has_streams_ready_to_be_reset.ensures
