-- `image_rules::rules::mid_early` meets its contract: each return is what its definition says, by what the calls ensure and the tests taken. Assumes nothing.
use borrow.Author.Tests.{eq-eqb, ne_eqb}
use Rattle.image_rules.specs.Messages.{mid_early}
use Rattle.image_rules.proofs.rules.mid_early.Goals as goal

pub returns-then-m-eq1 : goal.returns-then-m-eq1
unfolding mid_early
returns-then-m-eq1 c =
    rw (
      c.if-strict.true,
      eq-eqb _ _ c.if-m-eq1.true,
    )

pub returns-then-strict : goal.returns-then-strict
unfolding mid_early
returns-then-strict c =
    rw (
      c.if-strict.true,
      ne_eqb _ _ c.if-m-eq1.false,
    )

pub returns : goal.returns
unfolding mid_early
returns c =
    rw
    (
    c.if-strict.false
    )
