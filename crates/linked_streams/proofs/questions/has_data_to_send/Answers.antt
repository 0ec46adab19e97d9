use Rattle.linked_streams.proofs.Asks.{data_meets}
use Rattle.linked_streams.proofs.questions.has_data_to_send.Goals as goal

-- `linked_streams::questions::has_data_to_send` meets its contract: what the call promises of the words implies the rest (proofs/Asks.antt). Assumes nothing.
pub returns : goal.returns
returns c = data_meets _ _ c.has_data_to_send.ensures
