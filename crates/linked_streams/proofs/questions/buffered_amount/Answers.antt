use Rattle.linked_streams.proofs.Asks.{amount_meets}
use Rattle.linked_streams.proofs.questions.buffered_amount.Goals as goal

-- `linked_streams::questions::buffered_amount` meets its contract: what the call promises of the words implies the rest (proofs/Asks.antt). Assumes nothing.
pub returns : goal.returns
returns c = amount_meets _ _ _ c.buffered_amount.ensures
