-- `receiver_fragments::checks::last_tsn` meets its contract: each return is what its definition says, by what the calls ensure and the tests taken.
-- Assumes nothing.
use Rattle.receiver_fragments.specs.Checks.{last_of}
use Rattle.receiver_fragments.proofs.checks.last_tsn.Goals as goal

pub returns : goal.returns
unfolding last_of
returns c =
    rw
    (
    ← c.load_header-word.ensures
    )
