-- `receiver_messages::keys::next_turn` meets its contract: each return is what its definition says, by what the calls ensure and the tests taken.
-- Assumes nothing.
use Rattle.receiver_messages.specs.Keys.{next_turn}
use Rattle.receiver_messages.proofs.keys.next_turn.Goals as goal

pub returns-then-interleaved : goal.returns-then-interleaved
unfolding next_turn
returns-then-interleaved c =
    rw (
      c.if-interleaved.true,
      ← c.next_number.ensures,
    )

pub returns : goal.returns
unfolding next_turn
returns c =
    rw (c.if-interleaved.false)
