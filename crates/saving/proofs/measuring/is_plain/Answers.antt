-- `saving::measuring::is_plain` meets its contract: each return is what its definition says, by what the calls ensure and the tests taken. Assumes nothing.
use borrow.Author.Tests.{eq-eqb, ne_eqb}
use Rattle.saving.specs.Measure.{is_plain}
use Rattle.saving.proofs.measuring.is_plain.Goals as goal

pub returns-then-s-ne0 : goal.returns-then-s-ne0
unfolding is_plain
returns-then-s-ne0 c =
    rw
    (
    ne_eqb _ _ c.if-s-ne0.true
    )

pub returns-then-s-ne0-2 : goal.returns-then-s-ne0-2
unfolding is_plain
returns-then-s-ne0-2 c =
    rw (
      eq-eqb _ _ c.if-s-ne0.false,
      ne_eqb _ _ c.if-s-ne0-2.true,
    )

pub returns-then-s-ne0-3 : goal.returns-then-s-ne0-3
unfolding is_plain
returns-then-s-ne0-3 c =
    rw (
      eq-eqb _ _ c.if-s-ne0.false,
      eq-eqb _ _ c.if-s-ne0-2.false,
      ne_eqb _ _ c.if-s-ne0-3.true,
    )

pub returns : goal.returns
unfolding is_plain
returns c =
    rw (
      eq-eqb _ _ c.if-s-ne0.false,
      eq-eqb _ _ c.if-s-ne0-2.false,
      eq-eqb _ _ c.if-s-ne0-3.false,
    )
