-- `receiver_messages::keys::preceding` meets its contract: each return is what its definition says, by what the calls ensure and the tests taken.
-- Assumes nothing.
use Rattle.receiver_messages.specs.Keys.{preceding}
use Rattle.receiver_messages.proofs.keys.preceding.Goals as goal

pub returns : goal.returns
unfolding preceding
returns c =
    rw (
      ← c.previous-tsn.ensures,
      ← c.previous-fsn.ensures,
    )
