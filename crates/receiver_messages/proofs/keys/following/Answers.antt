-- `receiver_messages::keys::following` meets its contract: each return is what its definition says, by what the calls ensure and the tests taken.
-- Assumes nothing.
use Rattle.receiver_messages.specs.Keys.{following}
use Rattle.receiver_messages.proofs.keys.following.Goals as goal

pub returns : goal.returns
unfolding following
returns c =
    rw (
      ← c.next_number-tsn.ensures,
      ← c.next_number-fsn.ensures,
    )
