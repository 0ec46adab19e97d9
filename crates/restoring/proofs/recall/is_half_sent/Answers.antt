-- `restoring::recall::is_half_sent` meets its contract: each return is what its definition says, by what the calls ensure and the tests taken. Assumes nothing.
use borrow.Author.Tests.{le-ltb, lt-ltb}
use Rattle.restoring.specs.Recall.{half_sent_at}
use Rattle.restoring.proofs.recall.is_half_sent.Goals as goal

pub returns-then-k-gt-LAST_STREAM : goal.returns-then-k-gt-LAST_STREAM
unfolding half_sent_at
returns-then-k-gt-LAST_STREAM c =
    rw
    (
    lt-ltb _ _ c.if-k-gt-LAST_STREAM.true
    )

pub returns-then-s-lt-NO_MESSAGE : goal.returns-then-s-lt-NO_MESSAGE
unfolding half_sent_at
returns-then-s-lt-NO_MESSAGE c =
    rw (
      le-ltb _ _ c.if-k-gt-LAST_STREAM.false,
      ← c.load_stream-s.ensures,
      lt-ltb _ _ c.if-s-lt-NO_MESSAGE.true,
      ← c.load_item-m.ensures,
    )

pub returns : goal.returns
unfolding half_sent_at
returns c =
    rw (
      le-ltb _ _ c.if-k-gt-LAST_STREAM.false,
      ← c.load_stream-s.ensures,
      le-ltb _ _ c.if-s-lt-NO_MESSAGE.false,
    )
