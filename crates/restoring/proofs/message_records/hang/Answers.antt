-- `restoring::message_records::hang` meets its contract: each return is what its definition says, by what the calls ensure and the tests taken. Assumes
-- nothing.
use borrow.Author.Tests.{le-ltb, lt-ltb}
use Rattle.restoring.specs.Messages.{hung}
use Rattle.restoring.proofs.message_records.hang.Goals as goal

pub returns-then-t-gt-LAST_MESSAGE : goal.returns-then-t-gt-LAST_MESSAGE
unfolding hung
returns-then-t-gt-LAST_MESSAGE c =
    rw (
      ← c.load_totals-t.ensures,
      lt-ltb _ _ c.if-t-gt-LAST_MESSAGE.true,
    )

pub returns : goal.returns
unfolding hung
returns c =
    rw (
      ← c.load_totals-t.ensures,
      le-ltb _ _ c.if-t-gt-LAST_MESSAGE.false,
      ← c.load_next-free.ensures,
      ← c.hang_at.ensures,
    )
