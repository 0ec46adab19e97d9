-- `queue_sending::passing::drop_expired` meets its contract: each return is what its definition says, by what the calls ensure and the tests taken.
-- Assumes nothing.
use borrow.Author.Tests.{le-ltb, lt-ltb}
use Rattle.queue_sending.specs.Produce.{expired_dropped}
use Rattle.queue_sending.proofs.passing.drop_expired.Goals as goal

pub returns-then-row-gt-LAST_STREAM_ROW : goal.returns-then-row-gt-LAST_STREAM_ROW
unfolding expired_dropped
returns-then-row-gt-LAST_STREAM_ROW c =
    rw
    (
    lt-ltb _ _ c.if-row-gt-LAST_STREAM_ROW.true
    )

pub returns-then-s-gt-LAST_MESSAGE : goal.returns-then-s-gt-LAST_MESSAGE
unfolding expired_dropped
returns-then-s-gt-LAST_MESSAGE c =
    rw (
      le-ltb _ _ c.if-row-gt-LAST_STREAM_ROW.false,
      ← c.load_stream-s.ensures,
      lt-ltb _ _ c.if-s-gt-LAST_MESSAGE.true,
    )

pub returns : goal.returns
unfolding expired_dropped
returns c =
    rw (
      le-ltb _ _ c.if-row-gt-LAST_STREAM_ROW.false,
      ← c.drop_first.ensures,
      ← c.load_stream-s.ensures,
      le-ltb _ _ c.if-s-gt-LAST_MESSAGE.false,
    )
