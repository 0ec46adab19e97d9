-- `linked_sending::produce` meets its contract: what the call promises of the words implies the rest (proofs/Produces.antt). Assumes nothing.
use Rattle.linked_sending.proofs.Produces.{produce_meets}
use Rattle.linked_sending.proofs.produce.Goals as goal

pub returns : goal.returns
returns c = produce_meets _ _ _ _ _ _ _ _ _ _ c.produce.ensures
