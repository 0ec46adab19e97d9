-- `receiver_messages::keys::number_key` meets its contract: each return is what its definition says, by what the calls ensure and the tests taken.
-- Assumes nothing.
use Rattle.receiver_messages.specs.Keys.{number_key}
use Rattle.receiver_messages.proofs.keys.number_key.Goals as goal

pub returns-then-interleaved : goal.returns-then-interleaved
unfolding number_key
returns-then-interleaved c =
    rw (c.if-interleaved.true)

pub returns : goal.returns
unfolding number_key
returns c =
    rw (c.if-interleaved.false)
