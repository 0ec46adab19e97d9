-- `receiver_messages::readiness::take_message` meets its contract: each return is what its definition says, by what the calls ensure and the tests
-- taken. Assumes nothing.
use Rattle.receiver_messages.specs.Readiness.{take_message}
use Rattle.receiver_messages.proofs.readiness.take_message.Goals as goal

pub returns : goal.returns
unfolding take_message
returns c =
    rw (
      ← c.bucket_of-b.ensures.0,
      ← c.unindex_row.ensures,
      ← c.append_message.ensures,
    )
