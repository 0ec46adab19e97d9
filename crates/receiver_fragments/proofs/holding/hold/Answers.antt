-- `receiver_fragments::holding::hold` meets its contract: each return is what its definition says, by what the calls ensure and the tests taken. Assumes
-- nothing.
use Rattle.receiver_fragments.specs.Holding.{hold}
use Rattle.receiver_fragments.proofs.holding.hold.Goals as goal

pub returns : goal.returns
unfolding hold
returns c =
    rw (
      ← c.take_free.ensures,
      ← c.put_payload.ensures,
      ← c.link_held.ensures,
      ← c.store_header.ensures,
    )
