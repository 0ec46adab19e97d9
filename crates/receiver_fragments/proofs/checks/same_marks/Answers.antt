-- `receiver_fragments::checks::same_marks` meets its contract: each return is what its definition says, by what the calls ensure and the tests taken.
-- Assumes nothing.
use borrow.Author.Tests.{eq-eqb, ne_eqb}
use Rattle.receiver_fragments.specs.Checks.{same_marks}
use Rattle.receiver_fragments.proofs.checks.same_marks.Goals as goal

pub returns-then-f-g : goal.returns-then-f-g
unfolding same_marks
returns-then-f-g c =
    rw
    (
    ne_eqb _ _ c.if-f-g.true
    )

pub returns-then-f-g-2 : goal.returns-then-f-g-2
unfolding same_marks
returns-then-f-g-2 c =
    rw (
      eq-eqb _ _ c.if-f-g.false,
      ne_eqb _ _ c.if-f-g-2.true,
    )

pub returns : goal.returns
unfolding same_marks
returns c =
    rw (
      eq-eqb _ _ c.if-f-g.false,
      eq-eqb _ _ c.if-f-g-2.false,
    )
