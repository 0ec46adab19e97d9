-- `owned_restarts::enable_message_interleaving` meets its contract: the rows suffice. Assumes nothing.
use mathlib.Core.Bool.{true}
use Rattle.linked_restarts.proofs.Contracts.{switch_meets}
use Rattle.owned_restarts.proofs.Own.{own_room}
use Rattle.owned_restarts.proofs.enable_message_interleaving.Goals as goal

pub switch_own-requires : goal.switch_own-requires
switch_own-requires c = own_room _ c.requires true

pub returns : goal.returns
returns c = switch_meets _ _ _ _ c.switch_own.ensures
