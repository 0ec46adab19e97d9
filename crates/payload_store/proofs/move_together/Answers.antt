-- `payload_store::move_together` meets its contract: nothing is kept of the groups at first. Assumes nothing.
use mathlib.Core.Path.{refl}
use Rattle.payload_store.proofs.Groups.{hints_start}
use Rattle.payload_store.proofs.move_together.Goals as goal

pub move_all-requires : goal.move_all-requires
move_all-requires c = hints_start _ _ refl
