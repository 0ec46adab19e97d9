-- `receiver_fragments::receiving::accept` meets its contract: each return is what its definition says, by what the calls ensure and the tests taken.
-- Assumes nothing.
use Rattle.receiver_fragments.specs.Receiving.{accept}
use Rattle.receiver_fragments.proofs.receiving.accept.Goals as goal

pub returns : goal.returns
unfolding accept
returns c =
    rw (
      ← c.load_header-held.ensures,
      ← c.last_tsn-last.ensures,
      ← c.hold.ensures,
      ← c.pass_tsn.ensures,
      ← c.settle.ensures,
    )
