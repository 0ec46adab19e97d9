-- `receiver_fragments::fetching::delivery` meets its contract: each return is what its definition says, by what the calls ensure and the tests taken.
-- Assumes nothing.
use Rattle.receiver_fragments.specs.Fetching.{delivery}
use Rattle.receiver_fragments.proofs.fetching.delivery.Goals as goal

pub returns : goal.returns
unfolding delivery
returns c =
    rw c.load_fragment-f.ensures
