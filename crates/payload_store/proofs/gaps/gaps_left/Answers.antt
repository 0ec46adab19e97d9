-- `payload_store::gaps::gaps_left` meets its contract: each return is what its definition says, by what the calls ensure and the tests taken. Assumes nothing.
use borrow.Author.Tests.{eq-eqb, le-ltb, lt-ltb, ne_eqb}
use Rattle.payload_store.specs.Gaps.{gaps_left}
use Rattle.payload_store.proofs.gaps.gaps_left.Goals as goal

pub returns-then-n-place : goal.returns-then-n-place
unfolding gaps_left
returns-then-n-place c =
    rw (lt-ltb _ _ c.if-n-place.true)

pub returns-then-place-g : goal.returns-then-place-g
unfolding gaps_left
returns-then-place-g c =
    rw (
      le-ltb _ _ c.if-n-place.false,
      eq-eqb _ _ c.if-place-g.true,
    )

pub returns-then-place-g-2 : goal.returns-then-place-g-2
unfolding gaps_left
returns-then-place-g-2 c =
    rw (
      le-ltb _ _ c.if-n-place.false,
      ne_eqb _ _ c.if-place-g.false,
      eq-eqb _ _ c.if-place-g-2.true,
    )

pub returns-then-stays : goal.returns-then-stays
unfolding gaps_left
returns-then-stays c =
    rw (
      le-ltb _ _ c.if-n-place.false,
      ne_eqb _ _ c.if-place-g.false,
      ne_eqb _ _ c.if-place-g-2.false,
      ← c.keeps-stays.ensures,
      c.if-stays.true,
    )

pub returns : goal.returns
unfolding gaps_left
returns c =
    rw (
      le-ltb _ _ c.if-n-place.false,
      ne_eqb _ _ c.if-place-g.false,
      ne_eqb _ _ c.if-place-g-2.false,
      ← c.keeps-stays.ensures,
      c.if-stays.false,
    )
