use Rattle.message_chains.specs.Amounts.{rest}
use Rattle.message_chains.proofs.amounts.remaining.Goals as goal

-- `message_chains::amounts::remaining` meets its contract: each return is what its definition says, by what the calls ensure and the tests taken.
-- Assumes nothing.
pub returns : goal.returns
unfolding rest
returns c =
    rw
    (
    ← c.minus.ensures
    )
