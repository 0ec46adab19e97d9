use Rattle.undo_log.proofs.Exits.{kept_by}
use Rattle.undo_log.proofs.keep_rows.Goals as goal

-- `undo_log::keep_rows` meets its contract: each return is what its definition says, by what the calls ensure and the tests taken. Assumes nothing.
pub returns : goal.returns
returns c = kept_by _ _ _ _ _ _ _ _ _ c.keep_block.ensures c.keep_block-2.ensures c.keep_block-3.ensures
