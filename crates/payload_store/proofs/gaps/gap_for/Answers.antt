-- `payload_store::gaps::gap_for` meets its contract: each return is what its definition says, by what the calls ensure and the tests taken. Assumes nothing.
use borrow.Author.Tests.{le-leb, le-ltb, lt-leb, lt-ltb}
use Rattle.payload_store.specs.Gaps.{gap_for}
use Rattle.payload_store.proofs.gaps.gap_for.Goals as goal

pub returns-then-g-n : goal.returns-then-g-n
unfolding gap_for
returns-then-g-n c = rw (lt-ltb _ _ c.if-g-n.true)

pub returns-then-close : goal.returns-then-close
unfolding gap_for
returns-then-close c =
    rw (
      le-ltb _ _ c.if-g-n.false,
      ← c.near-close.ensures,
      c.if-close.true,
    )

pub returns-then-n-g : goal.returns-then-n-g
unfolding gap_for
returns-then-n-g c =
    rw (
      le-ltb _ _ c.if-g-n.false,
      ← c.near-close.ensures,
      c.if-close.false,
      le-leb _ _ c.if-n-g.true,
    )

pub returns : goal.returns
unfolding gap_for
returns c =
    rw (
      le-ltb _ _ c.if-g-n.false,
      ← c.near-close.ensures,
      c.if-close.false,
      lt-leb _ _ c.if-n-g.false,
    )
