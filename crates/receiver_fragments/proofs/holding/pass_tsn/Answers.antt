-- `receiver_fragments::holding::pass_tsn` meets its contract: each return is what its definition says, by what the calls ensure and the tests taken.
-- Assumes nothing.
use Rattle.receiver_fragments.specs.Holding.{pass_tsn}
use Rattle.receiver_fragments.proofs.holding.pass_tsn.Goals as goal

pub returns : goal.returns
unfolding pass_tsn
returns c =
    rw (
      ← c.store_ahead.ensures,
      ← c.pass-passed.ensures,
      ← c.store_header.ensures,
    )
