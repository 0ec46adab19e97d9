-- `restoring::message_records::restore_message` meets its contract: each return is what its definition says, by what the calls ensure and the tests
-- taken. Assumes nothing.
use borrow.Author.Tests.{le-ltb, lt-ltb}
use Rattle.restoring.specs.Messages.{message_restored}
use Rattle.restoring.proofs.message_records.restore_message.Goals as goal

pub returns-then-image-lt44 : goal.returns-then-image-lt44
unfolding message_restored
returns-then-image-lt44 c =
    rw
    (
    lt-ltb _ _ c.if-image-lt44.true
    )

pub returns-then-at-image : goal.returns-then-at-image
unfolding message_restored
returns-then-at-image c =
    rw (
      le-ltb _ _ c.if-image-lt44.false,
      lt-ltb _ _ c.if-at-image.true,
    )

pub returns : goal.returns
unfolding message_restored
returns c =
    rw (
      le-ltb _ _ c.if-image-lt44.false,
      le-ltb _ _ c.if-at-image.false,
      ← c.read_message-r.ensures,
      ← c.restore_record.ensures,
    )
