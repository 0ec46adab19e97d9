use Rattle.linked_streams.proofs.Asks.{empty_meets}
use Rattle.linked_streams.proofs.questions.is_empty.Goals as goal

-- `linked_streams::questions::is_empty` meets its contract: what the call promises of the words implies the rest (proofs/Asks.antt). Assumes nothing.
pub returns : goal.returns
returns c = empty_meets _ _ c.is_empty.ensures
