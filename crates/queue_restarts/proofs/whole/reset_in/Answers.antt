use borrow.Author.Tests.{le-ltb, lt-ltb}
use Rattle.queue_restarts.specs.Reset.{reset_in}
use Rattle.queue_restarts.proofs.Resets.{reset_waits}
use Rattle.queue_restarts.proofs.whole.reset_in.Goals as goal

-- `queue_restarts::whole::reset_in` meets its contract: each return is what its definition says, by what the calls ensure and the tests taken. Assumes nothing.
pub reschedule-requires : goal.reschedule-requires
reschedule-requires c =
    reset_waits _ _ _ _ _ _ _ _ _ _ c.requires.1 c.put_back-back.ensures
    c.reset_stream-o.ensures c.store_stream.ensures
    c.if-s-lt-NO_MESSAGE.true c.whole_head.ensures

pub returns-then-s-lt-NO_MESSAGE : goal.returns-then-s-lt-NO_MESSAGE
unfolding reset_in
returns-then-s-lt-NO_MESSAGE c =
    rw (
      ← c.put_back-back.ensures,
      ← c.reset_stream-o.ensures,
      ← c.store_stream.ensures,
      lt-ltb _ _ c.if-s-lt-NO_MESSAGE.true,
      ← c.whole_head.ensures,
      ← c.reschedule.ensures,
    )

pub returns-else-s-lt-NO_MESSAGE : goal.returns-else-s-lt-NO_MESSAGE
unfolding reset_in
returns-else-s-lt-NO_MESSAGE c =
    rw (
      ← c.put_back-back.ensures,
      ← c.reset_stream-o.ensures,
      ← c.store_stream.ensures,
      le-ltb _ _ c.if-s-lt-NO_MESSAGE.false,
    )
