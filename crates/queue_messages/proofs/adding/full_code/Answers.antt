use borrow.Author.Tests.{le-ltb, lt-ltb}
use Rattle.queue_messages.specs.Add.{full_code}
use Rattle.queue_messages.proofs.adding.full_code.Goals as goal

-- `queue_messages::adding::full_code` meets its contract: each return is what its definition says, by what the calls ensure and the tests taken. Assumes
-- nothing.
pub returns-then-t-gt-LAST_MESSAGE : goal.returns-then-t-gt-LAST_MESSAGE
unfolding full_code
returns-then-t-gt-LAST_MESSAGE c =
    rw (
      ← c.load_totals-t.ensures,
      lt-ltb _ _ c.if-t-gt-LAST_MESSAGE.true,
    )

pub returns-then-n-free : goal.returns-then-n-free
unfolding full_code
returns-then-n-free c =
    rw (
      ← c.load_totals-t.ensures,
      le-ltb _ _ c.if-t-gt-LAST_MESSAGE.false,
      ← c.minus-free.ensures,
      lt-ltb _ _ c.if-n-free.true,
    )

pub returns : goal.returns
unfolding full_code
returns c =
    rw (
      ← c.load_totals-t.ensures,
      le-ltb _ _ c.if-t-gt-LAST_MESSAGE.false,
      ← c.minus-free.ensures,
      le-ltb _ _ c.if-n-free.false,
    )
