-- `payload_store::searching::lies` meets its contract: each return is what its definition says, by the test taken. Assumes nothing.
use borrow.Author.Tests.{le-ltb, lt-leb, lt-ltb}
use Rattle.payload_store.specs.Searching.{lies}
use Rattle.payload_store.proofs.searching.lies.Goals as goal

pub returns-then-size-len : goal.returns-then-size-len
unfolding lies
returns-then-size-len c = rw (le-ltb _ _ c.if-size-len.true)

pub returns-else-size-len : goal.returns-else-size-len
unfolding lies
returns-else-size-len c = rw (lt-leb _ _ c.if-size-len.false, lt-ltb _ _ c.if-size-len.false)
