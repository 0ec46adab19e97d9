-- `linked_restarts::reset` meets its contract: what the call promises of the words implies the rest (proofs/Contracts.antt). Assumes nothing.
use Rattle.linked_restarts.proofs.Contracts.{reset_meets}
use Rattle.linked_restarts.proofs.reset.Goals as goal

pub returns : goal.returns
returns c = reset_meets _ _ _ c.reset.ensures
