use borrow.Author.Tests.{le-ltb, lt-ltb}
use Rattle.queue_restarts.specs.Reset.{sum_known}
use Rattle.queue_restarts.proofs.whole.sum_known.Goals as goal

-- `queue_restarts::whole::sum_known` meets its contract: each return is what its definition says, by what the calls ensure and the tests taken. Assumes nothing.
pub returns-then-place-gt-LAST_STREAM : goal.returns-then-place-gt-LAST_STREAM
unfolding sum_known
returns-then-place-gt-LAST_STREAM c =
    rw
    (
    lt-ltb _ _ c.if-place-gt-LAST_STREAM.true
    )

pub returns : goal.returns
unfolding sum_known
returns c =
    rw (
      le-ltb _ _ c.if-place-gt-LAST_STREAM.false,
      ← c.load_stream-s.ensures,
      ← c.put_back-back.ensures,
      ← c.sum_stream.ensures,
    )
