use Rattle.linked_streams.proofs.Asks.{priority_meets}
use Rattle.linked_streams.proofs.questions.get_priority.Goals as goal

-- `linked_streams::questions::get_priority` meets its contract: what the call promises of the words implies the rest (proofs/Asks.antt). Assumes nothing.
pub returns : goal.returns
returns c = priority_meets _ _ _ c.get_priority.ensures
