-- `restoring::waits::wait_at` meets its contract: each return is what its definition says, by what the calls ensure and the tests taken. Assumes nothing.
use borrow.Author.Tests.{le-ltb, lt-ltb}
use Rattle.queue_streams.proofs.Waits.{waits_again}
use Rattle.restoring.specs.Messages.{waits_at}
use Rattle.restoring.proofs.waits.wait_at.Goals as goal

pub returns-then-k-gt-LAST_STREAM : goal.returns-then-k-gt-LAST_STREAM
unfolding waits_at
returns-then-k-gt-LAST_STREAM c =
    rw
    (
    lt-ltb _ _ c.if-k-gt-LAST_STREAM.true
    )

pub returns-then-s-lt-NO_MESSAGE : goal.returns-then-s-lt-NO_MESSAGE
unfolding waits_at
returns-then-s-lt-NO_MESSAGE c =
    rw (
      le-ltb _ _ c.if-k-gt-LAST_STREAM.false,
      ← c.load_stream-s.ensures,
      lt-ltb _ _ c.if-s-lt-NO_MESSAGE.true,
    )
    (waits_again _ _ _ _ _ _ _ _ _ c.head_size-bytes.ensures c.parameters_for-p.ensures c.set_bytes_remaining.ensures)

pub returns-else-s-lt-NO_MESSAGE : goal.returns-else-s-lt-NO_MESSAGE
unfolding waits_at
returns-else-s-lt-NO_MESSAGE c =
    rw (
      le-ltb _ _ c.if-k-gt-LAST_STREAM.false,
      ← c.load_stream-s.ensures,
      le-ltb _ _ c.if-s-lt-NO_MESSAGE.false,
    )
