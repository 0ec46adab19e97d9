use borrow.Author.Tests.{le-ltb, lt-ltb}
use Rattle.undo_log.specs.Log.{undone_block}
use Rattle.undo_log.proofs.undo_block.Goals as goal

-- `undo_log::undo_block` meets its contract: each return is what its definition says, by what the calls ensure and the tests taken. Assumes nothing.
pub returns-then-from-n : goal.returns-then-from-n
unfolding undone_block
returns-then-from-n c =
    rw
    (
    lt-ltb _ _ c.if-from-n.true
    )

pub returns : goal.returns
unfolding undone_block
returns c =
    rw (
      le-ltb _ _ c.if-from-n.false,
      ← c.copy_row.ensures,
    )
