-- `restoring::message_records::restore_record` meets its contract: each return is what its definition says, by what the calls ensure and the tests
-- taken. Assumes nothing.
use borrow.Author.Tests.{le-ltb, lt-ltb}
use Rattle.restoring.specs.Messages.{record_restored}
use Rattle.restoring.proofs.Loops.{record_done}
use Rattle.restoring.proofs.message_records.restore_record.Goals as goal

pub returns-then-n-image : goal.returns-then-n-image
unfolding record_restored
returns-then-n-image c =
    rw
    (
    lt-ltb _ _ c.if-n-image.true
    )

pub returns : goal.returns
unfolding record_restored
returns c =
    rw (
      le-ltb _ _ c.if-n-image.false,
      ← c.restored_item-m.ensures,
      ← c.unsent-left.ensures,
    )
    (let a = c.args in record_done _ _ _ _ _ a.at a.r.length _ _ c.hang_in.ensures)
