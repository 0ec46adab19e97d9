use Rattle.linked_streams.proofs.Asks.{total_meets}
use Rattle.linked_streams.proofs.questions.total_buffered_amount.Goals as goal

-- `linked_streams::questions::total_buffered_amount` meets its contract: what the call promises of the words implies the rest (proofs/Asks.antt).
-- Assumes nothing.
pub returns : goal.returns
returns c = total_meets _ _ c.total_buffered_amount.ensures
