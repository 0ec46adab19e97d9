-- `owned_restarts::commit_reset_streams` meets its contract: the rows suffice. Assumes nothing.
use mathlib.Core.Bool.{false}
use Rattle.linked_restarts.proofs.Contracts.{commit_meets}
use Rattle.owned_restarts.proofs.Own.{own_room}
use Rattle.owned_restarts.proofs.commit_reset_streams.Goals as goal

pub reopen_own-requires : goal.reopen_own-requires
reopen_own-requires c = own_room _ c.requires false

pub returns : goal.returns
returns c = commit_meets _ _ _ c.reopen_own.ensures
