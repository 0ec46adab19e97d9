use Rattle.linked_streams.proofs.Asks.{room_meets}
use Rattle.linked_streams.proofs.questions.waiting_messages.Goals as goal

-- `linked_streams::questions::waiting_messages` meets its contract: what the call promises of the words implies the rest (proofs/Asks.antt). Assumes nothing.
pub returns : goal.returns
returns c = room_meets _ _ _ c.waiting_messages.ensures
