-- `receiver_fragments::checks::same_fields` meets its contract: each return is what its definition says, by what the calls ensure and the tests taken.
-- Assumes nothing.
use borrow.Author.Tests.{eq-eqb, ne_eqb}
use Rattle.receiver_fragments.specs.Checks.{same_fields}
use Rattle.receiver_fragments.proofs.checks.same_fields.Goals as goal

pub returns-then-f-g : goal.returns-then-f-g
unfolding same_fields
returns-then-f-g c =
    rw
    (
    ne_eqb _ _ c.if-f-g.true
    )

pub returns-then-f-g-2 : goal.returns-then-f-g-2
unfolding same_fields
returns-then-f-g-2 c =
    rw (
      eq-eqb _ _ c.if-f-g.false,
      ne_eqb _ _ c.if-f-g-2.true,
    )

pub returns-then-f-g-3 : goal.returns-then-f-g-3
unfolding same_fields
returns-then-f-g-3 c =
    rw (
      eq-eqb _ _ c.if-f-g.false,
      eq-eqb _ _ c.if-f-g-2.false,
      ne_eqb _ _ c.if-f-g-3.true,
    )

pub returns-then-f-g-4 : goal.returns-then-f-g-4
unfolding same_fields
returns-then-f-g-4 c =
    rw (
      eq-eqb _ _ c.if-f-g.false,
      eq-eqb _ _ c.if-f-g-2.false,
      eq-eqb _ _ c.if-f-g-3.false,
      ne_eqb _ _ c.if-f-g-4.true,
    )

pub returns-then-f-g-5 : goal.returns-then-f-g-5
unfolding same_fields
returns-then-f-g-5 c =
    rw (
      eq-eqb _ _ c.if-f-g.false,
      eq-eqb _ _ c.if-f-g-2.false,
      eq-eqb _ _ c.if-f-g-3.false,
      eq-eqb _ _ c.if-f-g-4.false,
      ne_eqb _ _ c.if-f-g-5.true,
    )

pub returns : goal.returns
unfolding same_fields
returns c =
    rw (
      eq-eqb _ _ c.if-f-g.false,
      eq-eqb _ _ c.if-f-g-2.false,
      eq-eqb _ _ c.if-f-g-3.false,
      eq-eqb _ _ c.if-f-g-4.false,
      eq-eqb _ _ c.if-f-g-5.false,
      ← c.same_marks.ensures,
    )
