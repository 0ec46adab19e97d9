use Rattle.queue_restarts.specs.Reset.{whole_stream}
use Rattle.queue_restarts.proofs.whole.reset_stream.Goals as goal

-- `queue_restarts::whole::reset_stream` meets its contract: each return is what its definition says, by what the calls ensure and the tests taken. Assumes nothing.
pub returns : goal.returns
unfolding whole_stream
returns c =
    rw
    (
    ← c.plus.ensures
    )
