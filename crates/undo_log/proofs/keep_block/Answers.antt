-- `undo_log::keep_block` meets its contract: each return is what its definition says, by what the calls ensure and the tests taken. Assumes nothing.
use Rattle.undo_log.specs.Log.{block}
use Rattle.undo_log.proofs.keep_block.Goals as goal

pub returns : goal.returns
unfolding block
returns c =
    rw
    (
    ← c.copy_row.ensures
    )
