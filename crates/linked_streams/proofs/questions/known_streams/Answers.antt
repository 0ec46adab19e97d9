use Rattle.linked_streams.proofs.Asks.{room_meets}
use Rattle.linked_streams.proofs.questions.known_streams.Goals as goal

-- `linked_streams::questions::known_streams` meets its contract: what the call promises of the words implies the rest (proofs/Asks.antt). Assumes nothing.
pub returns : goal.returns
returns c = room_meets _ _ _ c.known_streams.ensures
