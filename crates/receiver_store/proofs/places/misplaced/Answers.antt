-- `receiver_store::places::misplaced` meets its contract: each return is what its definition says, by what the calls ensure and the tests taken. Assumes
-- nothing.
use borrow.Author.Tests.{le-ltb, lt-ltb}
use Rattle.receiver_store.specs.Packing.{misplaced}
use Rattle.receiver_store.proofs.places.misplaced.Goals as goal

pub returns-then-place-low : goal.returns-then-place-low
unfolding misplaced
returns-then-place-low c =
    rw (lt-ltb _ _ c.if-place-low.true)

pub returns-then-size-len : goal.returns-then-size-len
unfolding misplaced
returns-then-size-len c =
    rw (
      le-ltb _ _ c.if-place-low.false,
      lt-ltb _ _ c.if-size-len.true,
    )

pub returns : goal.returns
unfolding misplaced
returns c =
    rw (
      le-ltb _ _ c.if-place-low.false,
      le-ltb _ _ c.if-size-len.false,
    )
