-- `image_rules::rules::order_right` meets its contract: each return is what its definition says, by what the calls ensure and the tests taken. Assumes nothing.
use borrow.Author.Tests.{eq-eqb, ne_eqb}
use Rattle.image_rules.specs.Messages.{order_right}
use Rattle.image_rules.proofs.rules.order_right.Goals as goal

pub returns-then-m-eq1 : goal.returns-then-m-eq1
unfolding order_right
returns-then-m-eq1 c =
    rw
    (
    eq-eqb _ _ c.if-m-eq1.true
    )

pub returns : goal.returns
unfolding order_right
returns c =
    rw
    (
    ne_eqb _ _ c.if-m-eq1.false
    )
