-- `receiver_messages::readiness::leave_ready` meets its contract: each return is what its definition says, by what the calls ensure and the tests taken.
-- Assumes nothing.
use borrow.Author.Tests.{le-leb, lt-leb}
use Rattle.receiver_messages.specs.Readiness.{leave_ready}
use Rattle.receiver_messages.proofs.readiness.leave_ready.Goals as goal

pub returns-then-next-ge4096 : goal.returns-then-next-ge4096
unfolding leave_ready
returns-then-next-ge4096 c =
    rw (
      ← c.load_link-next.ensures,
      ← c.store_header.ensures,
      le-leb _ _ c.if-next-ge4096.true,
      ← c.store_header-then-next-ge4096.ensures,
    )

pub returns : goal.returns
unfolding leave_ready
returns c =
    rw (
      ← c.load_link-next.ensures,
      ← c.store_header.ensures,
      lt-leb _ _ c.if-next-ge4096.false,
    )
