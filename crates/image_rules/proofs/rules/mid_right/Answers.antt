-- `image_rules::rules::mid_right` meets its contract: each return is what its definition says, by what the calls ensure and the tests taken. Assumes nothing.
use borrow.Author.Tests.{eq-eqb, ne_eqb}
use Rattle.image_rules.specs.Messages.{mid_right}
use Rattle.image_rules.proofs.rules.mid_right.Goals as goal

pub returns-then-m-eq1 : goal.returns-then-m-eq1
unfolding mid_right
returns-then-m-eq1 c =
    rw
    (
    eq-eqb _ _ c.if-m-eq1.true
    )

pub returns-then-m-eq0-3 : goal.returns-then-m-eq0-3
unfolding mid_right
returns-then-m-eq0-3 c =
    rw (
      ne_eqb _ _ c.if-m-eq1.false,
      eq-eqb _ _ c.if-m-eq0.true,
      eq-eqb _ _ c.if-m-eq0-2.true,
      eq-eqb _ _ c.if-m-eq0-3.true,
    )

pub returns-then-m-eq0-2 : goal.returns-then-m-eq0-2
unfolding mid_right
returns-then-m-eq0-2 c =
    rw (
      ne_eqb _ _ c.if-m-eq1.false,
      eq-eqb _ _ c.if-m-eq0.true,
      eq-eqb _ _ c.if-m-eq0-2.true,
      ne_eqb _ _ c.if-m-eq0-3.false,
    )

pub returns-then-m-eq0 : goal.returns-then-m-eq0
unfolding mid_right
returns-then-m-eq0 c =
    rw (
      ne_eqb _ _ c.if-m-eq1.false,
      eq-eqb _ _ c.if-m-eq0.true,
      ne_eqb _ _ c.if-m-eq0-2.false,
    )

pub returns : goal.returns
unfolding mid_right
returns c =
    rw (
      ne_eqb _ _ c.if-m-eq1.false,
      ne_eqb _ _ c.if-m-eq0.false,
    )
