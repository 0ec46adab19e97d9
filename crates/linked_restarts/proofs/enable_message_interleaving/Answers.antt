-- `linked_restarts::enable_message_interleaving` meets its contract: what the call promises of the words implies the rest (proofs/Contracts.antt).
-- Assumes nothing.
use Rattle.linked_restarts.proofs.Contracts.{switch_meets}
use Rattle.linked_restarts.proofs.enable_message_interleaving.Goals as goal

pub returns : goal.returns
returns c = switch_meets _ _ _ _ c.enable_message_interleaving.ensures
