-- `queue_streams::restart::reopen_in` meets its contract: each return is what its definition says, by what the calls ensure and the tests taken. Assumes
use borrow.Author.Tests.{le-ltb, lt-ltb}
use Rattle.queue_streams.specs.Restart.{reopened_in}
use Rattle.queue_streams.proofs.Restarts.{reopen_waits}
use Rattle.queue_streams.proofs.restart.reopen_in.Goals as goal

-- `queue_streams::restart::reopen_in` meets its contract: each return is what its definition says, by what the calls ensure and the tests taken. Assumes
-- nothing.
pub reschedule-requires : goal.reschedule-requires
reschedule-requires c =
    reopen_waits _ _ _ _ _ _ _ _ _ c.requires.1
    c.is_resetting-resetting.ensures c.if-resetting.true
    c.open_stream-o.ensures c.store_stream.ensures c.if-first-lt-NO_MESSAGE.true

pub returns-then-first-lt-NO_MESSAGE : goal.returns-then-first-lt-NO_MESSAGE
unfolding reopened_in
returns-then-first-lt-NO_MESSAGE c =
    rw (
      ← c.is_resetting-resetting.ensures,
      c.if-resetting.true,
      ← c.open_stream-o.ensures,
      ← c.store_stream.ensures,
      lt-ltb _ _ c.if-first-lt-NO_MESSAGE.true,
      ← c.reschedule.ensures,
    )

pub returns-else-first-lt-NO_MESSAGE : goal.returns-else-first-lt-NO_MESSAGE
unfolding reopened_in
returns-else-first-lt-NO_MESSAGE c =
    rw (
      ← c.is_resetting-resetting.ensures,
      c.if-resetting.true,
      ← c.open_stream-o.ensures,
      ← c.store_stream.ensures,
      le-ltb _ _ c.if-first-lt-NO_MESSAGE.false,
    )

pub returns-else-resetting : goal.returns-else-resetting
unfolding reopened_in
returns-else-resetting c =
    rw (
      ← c.is_resetting-resetting.ensures,
      c.if-resetting.false,
    )
