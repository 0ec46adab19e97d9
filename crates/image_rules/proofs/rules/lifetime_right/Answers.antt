-- `image_rules::rules::lifetime_right` meets its contract: each return is what its definition says, by what the calls ensure and the tests taken.
-- Assumes nothing.
use borrow.Author.Tests.{eq-eqb, ne_eqb}
use Rattle.image_rules.specs.Messages.{lifetime_right}
use Rattle.image_rules.proofs.rules.lifetime_right.Goals as goal

pub returns-then-m-eq1 : goal.returns-then-m-eq1
unfolding lifetime_right
returns-then-m-eq1 c =
    rw
    (
    eq-eqb _ _ c.if-m-eq1.true
    )

pub returns : goal.returns
unfolding lifetime_right
returns c =
    rw
    (
    ne_eqb _ _ c.if-m-eq1.false
    )
