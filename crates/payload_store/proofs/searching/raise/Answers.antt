-- `payload_store::searching::raise` meets its contract: each return is what its definition says, by what the calls ensure and the tests taken. Assumes nothing.
use borrow.Author.Tests.{le-ltb, lt-ltb}
use Rattle.payload_store.specs.Searching.{raised}
use Rattle.payload_store.proofs.searching.raise.Goals as goal

pub returns-then-reach-k : goal.returns-then-reach-k
unfolding raised
returns-then-reach-k c =
    rw (lt-ltb _ _ c.if-reach-k.true)

pub returns-else-reach-k : goal.returns-else-reach-k
unfolding raised
returns-else-reach-k c =
    rw (le-ltb _ _ c.if-reach-k.false)
