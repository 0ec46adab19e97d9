use Rattle.undo_log.proofs.Exits.{undone_by}
use Rattle.undo_log.proofs.undo_drop.Goals as goal

-- `undo_log::undo_drop` meets its contract: each return is what its definition says, by what the calls ensure and the tests taken. Assumes nothing.
pub returns : goal.returns
returns c = undone_by _ _ _ _ _ _ c.undo_block.ensures c.undo_block-2.ensures c.undo_block-3.ensures
