-- `payload_store::gaps::near` meets its contract: each return is what its definition says, by the test taken. Assumes nothing.
use borrow.Author.Tests.{le-ltb, lt-leb, lt-ltb}
use Rattle.payload_store.specs.Gaps.{near}
use Rattle.payload_store.proofs.gaps.near.Goals as goal

pub returns-then-g : goal.returns-then-g
unfolding near
returns-then-g c = rw (le-ltb _ _ c.if-g.true)

pub returns-else-g : goal.returns-else-g
unfolding near
returns-else-g c = rw (lt-leb _ _ c.if-g.false, lt-ltb _ _ c.if-g.false)
