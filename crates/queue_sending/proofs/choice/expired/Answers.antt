-- `queue_sending::choice::expired` meets its contract: each return is what its definition says, by what the calls ensure and the tests taken. Assumes nothing.
use Rattle.queue_sending.specs.Choice.{expired_by}
use Rattle.queue_sending.proofs.choice.expired.Goals as goal

pub returns-in-None : goal.returns-in-None
unfolding expired_by
returns-in-None c =
    rw
    (
    c.in-None.is
    )

pub returns-in-Some : goal.returns-in-Some
unfolding expired_by
returns-in-Some c =
    rw
    (
    c.in-Some.is
    )
