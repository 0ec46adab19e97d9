-- `linked_saving::save` meets its contract: what the call promises of the words implies the rest (proofs/Saves.antt). Assumes nothing.
use Rattle.linked_saving.proofs.Saves.{save_meets}
use Rattle.linked_saving.proofs.save.Goals as goal

pub returns : goal.returns
returns c = save_meets _ _ _ _ _ _ c.save.ensures
