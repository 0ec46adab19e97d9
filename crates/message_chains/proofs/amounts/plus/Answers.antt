use borrow.Author.Tests.{le-ltb, lt-ltb}
use Rattle.message_chains.specs.Amounts.{sum}
use Rattle.message_chains.proofs.amounts.plus.Goals as goal

-- `message_chains::amounts::plus` meets its contract: each return is what its definition says, by what the calls ensure and the tests taken. Assumes nothing.
pub returns-then-b-a : goal.returns-then-b-a
unfolding sum
returns-then-b-a c =
    rw
    (
    lt-ltb _ _ c.if-b-a.true
    )

pub returns : goal.returns
unfolding sum
returns c =
    rw
    (
    le-ltb _ _ c.if-b-a.false
    )
