-- `receiver_store::packing::goal_of` meets its contract. Assumes nothing.
use Rattle.receiver_store.specs.Packing.{goal_of}
use Rattle.std.proofs.Common.{rules}
use Rattle.receiver_store.proofs.packing.goal_of.Goals as goal

pub returns : goal.returns
unfolding goal_of
returns c = search rules
