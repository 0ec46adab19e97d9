-- `owned_restarts::reset` meets its contract: the rows and the sums suffice. Assumes nothing.
use mathlib.Core.Bool.{true}
use Rattle.linked_restarts.proofs.Contracts.{reset_meets}
use Rattle.owned_restarts.proofs.Own.{own_room, own_sum}
use Rattle.owned_restarts.proofs.reset.Goals as goal

pub reset_own-requires : goal.reset_own-requires
reset_own-requires c = (own_room _ c.requires true, own_sum _ c.requires)

pub returns : goal.returns
returns c = reset_meets _ _ _ c.reset_own.ensures
