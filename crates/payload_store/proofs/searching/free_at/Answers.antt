-- `payload_store::searching::free_at` meets its contract: each return is what its definition says, by what the calls ensure and the tests taken. Assumes
-- nothing.
use borrow.Author.Tests.{eq-eqb, le-ltb, lt-ltb, ne_eqb}
use Rattle.payload_store.specs.Searching.{free_at}
use Rattle.payload_store.proofs.searching.free_at.Goals as goal

pub returns-then-r-k : goal.returns-then-r-k
unfolding free_at
returns-then-r-k c =
    rw (eq-eqb _ _ c.if-r-k.true)

pub returns-then-next-r : goal.returns-then-next-r
unfolding free_at
returns-then-next-r c =
    rw (
      ne_eqb _ _ c.if-r-k.false,
      lt-ltb _ _ c.if-next-r.true,
    )

pub returns-then-next-r-2 : goal.returns-then-next-r-2
unfolding free_at
returns-then-next-r-2 c =
    rw (
      ne_eqb _ _ c.if-r-k.false,
      le-ltb _ _ c.if-next-r.false,
      lt-ltb _ _ c.if-next-r-2.true,
    )

pub returns : goal.returns
unfolding free_at
returns c =
    rw (
      ne_eqb _ _ c.if-r-k.false,
      le-ltb _ _ c.if-next-r.false,
      le-ltb _ _ c.if-next-r-2.false,
    )
