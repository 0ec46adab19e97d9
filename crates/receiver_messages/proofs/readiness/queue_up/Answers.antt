-- `receiver_messages::readiness::queue_up` meets its contract: each return is what its definition says, by what the calls ensure and the tests taken.
-- Assumes nothing.
use Rattle.receiver_messages.specs.Readiness.{queue_up}
use Rattle.receiver_messages.proofs.readiness.queue_up.Goals as goal

pub returns-then-f : goal.returns-then-f
unfolding queue_up
returns-then-f c =
    rw (
      c.if-f.true,
      ← c.append_message.ensures,
    )

pub returns : goal.returns
unfolding queue_up
returns c =
    rw (
      ← c.bucket_of-b.ensures.0,
      ← c.index_last.ensures,
      ← c.promote.ensures,
      c.if-f.false,
    )
