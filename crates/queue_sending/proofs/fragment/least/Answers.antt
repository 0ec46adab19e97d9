-- `queue_sending::fragment::least` meets its contract: each return is what its definition says, by what the calls ensure and the tests taken. Assumes nothing.
use borrow.Author.Tests.{le-ltb, lt-ltb}
use Rattle.queue_sending.specs.Fragment.{least_of}
use Rattle.queue_sending.proofs.fragment.least.Goals as goal

pub returns-then-a-b : goal.returns-then-a-b
unfolding least_of
returns-then-a-b c =
    rw
    (
    lt-ltb _ _ c.if-a-b.true
    )

pub returns : goal.returns
unfolding least_of
returns c =
    rw
    (
    le-ltb _ _ c.if-a-b.false
    )
