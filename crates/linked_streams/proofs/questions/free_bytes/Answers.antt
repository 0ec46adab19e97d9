use Rattle.linked_streams.proofs.Asks.{room_meets}
use Rattle.linked_streams.proofs.questions.free_bytes.Goals as goal

-- `linked_streams::questions::free_bytes` meets its contract: what the call promises of the words implies the rest (proofs/Asks.antt). Assumes nothing.
pub returns : goal.returns
returns c = room_meets _ _ _ c.free_bytes.ensures
