-- `receiver_fragments::holding::link_held` meets its contract: each return is what its definition says, by what the calls ensure and the tests taken.
-- Assumes nothing.
use Rattle.receiver_fragments.specs.Holding.{link_held}
use Rattle.receiver_fragments.proofs.holding.link_held.Goals as goal

pub returns : goal.returns
unfolding link_held
returns c =
    rw (
      ← c.store_fragment.ensures,
      ← c.store_link.ensures,
      ← c.link_newest.ensures,
      ← c.index_held.ensures,
    )
