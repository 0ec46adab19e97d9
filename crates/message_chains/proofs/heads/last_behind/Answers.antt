use borrow.Author.Tests.{le-ltb, lt-ltb}
use Rattle.message_chains.specs.Heads.{last_behind}
use Rattle.message_chains.proofs.heads.last_behind.Goals as goal

-- `message_chains::heads::last_behind` meets its contract: each return is what its definition says, by what the calls ensure and the tests taken.
-- Assumes nothing.
pub returns-then-next-lt-NO_MESSAGE : goal.returns-then-next-lt-NO_MESSAGE
unfolding last_behind
returns-then-next-lt-NO_MESSAGE c =
    rw
    (
    lt-ltb _ _ c.if-next-lt-NO_MESSAGE.true
    )

pub returns : goal.returns
unfolding last_behind
returns c =
    rw
    (
    le-ltb _ _ c.if-next-lt-NO_MESSAGE.false
    )
