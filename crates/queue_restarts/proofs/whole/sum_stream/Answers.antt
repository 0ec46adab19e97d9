use borrow.Author.Tests.{le-ltb, lt-ltb}
use Rattle.queue_restarts.specs.Reset.{sum_stream}
use Rattle.queue_restarts.proofs.whole.sum_stream.Goals as goal

-- `queue_restarts::whole::sum_stream` meets its contract: each return is what its definition says, by what the calls ensure and the tests taken. Assumes nothing.
pub returns-then-back-s : goal.returns-then-back-s
unfolding sum_stream
returns-then-back-s c =
    rw
    (
    lt-ltb _ _ c.if-back-s.true
    )

pub returns-then-back-t : goal.returns-then-back-t
unfolding sum_stream
returns-then-back-t c =
    rw (
      le-ltb _ _ c.if-back-s.false,
      lt-ltb _ _ c.if-back-t.true,
    )

pub returns : goal.returns
unfolding sum_stream
returns c =
    rw (
      le-ltb _ _ c.if-back-s.false,
      le-ltb _ _ c.if-back-t.false,
    )
