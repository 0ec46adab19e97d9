-- `payload_store::gaps::gaps_wrong` meets its contract: each return is what its definition says, by what the calls ensure and the tests taken. Assumes nothing.
use borrow.Author.Tests.{le-ltb, lt-ltb}
use Rattle.payload_store.specs.Gaps.{gaps_wrong}
use Rattle.payload_store.proofs.gaps.gaps_wrong.Goals as goal

pub returns-then-g-len : goal.returns-then-g-len
unfolding gaps_wrong
returns-then-g-len c = rw (lt-ltb _ _ c.if-g-len.true)

pub returns-then-g : goal.returns-then-g
unfolding gaps_wrong
returns-then-g c =
    rw (
      le-ltb _ _ c.if-g-len.false,
      lt-ltb _ _ c.if-g.true,
    )

pub returns-then-g-len-2 : goal.returns-then-g-len-2
unfolding gaps_wrong
returns-then-g-len-2 c =
    rw (
      le-ltb _ _ c.if-g-len.false,
      le-ltb _ _ c.if-g.false,
      lt-ltb _ _ c.if-g-len-2.true,
    )

pub returns : goal.returns
unfolding gaps_wrong
returns c =
    rw (
      le-ltb _ _ c.if-g-len.false,
      le-ltb _ _ c.if-g.false,
      le-ltb _ _ c.if-g-len-2.false,
    )
