use Rattle.linked_streams.proofs.Asks.{threshold_meets}
use Rattle.linked_streams.proofs.questions.buffered_amount_low_threshold.Goals as goal

-- `linked_streams::questions::buffered_amount_low_threshold` meets its contract: what the call promises of the words implies the rest
-- (proofs/Asks.antt). Assumes nothing.
pub returns : goal.returns
returns c = threshold_meets _ _ _ c.buffered_amount_low_threshold.ensures
