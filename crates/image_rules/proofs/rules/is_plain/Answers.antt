-- `image_rules::rules::is_plain` meets its contract: each return is what its definition says, by what the calls ensure and the tests taken. Assumes nothing.
use borrow.Author.Tests.{eq-eqb, ne_eqb}
use Rattle.image_rules.specs.Streams.{is_plain}
use Rattle.image_rules.proofs.rules.is_plain.Goals as goal

pub returns-then-s-eq0-3 : goal.returns-then-s-eq0-3
unfolding is_plain
returns-then-s-eq0-3 c =
    rw (
      eq-eqb _ _ c.if-s-eq0.true,
      eq-eqb _ _ c.if-s-eq0-2.true,
      eq-eqb _ _ c.if-s-eq0-3.true,
    )

pub returns-then-s-eq0-2 : goal.returns-then-s-eq0-2
unfolding is_plain
returns-then-s-eq0-2 c =
    rw (
      eq-eqb _ _ c.if-s-eq0.true,
      eq-eqb _ _ c.if-s-eq0-2.true,
      ne_eqb _ _ c.if-s-eq0-3.false,
    )

pub returns-then-s-eq0 : goal.returns-then-s-eq0
unfolding is_plain
returns-then-s-eq0 c =
    rw (
      eq-eqb _ _ c.if-s-eq0.true,
      ne_eqb _ _ c.if-s-eq0-2.false,
    )

pub returns : goal.returns
unfolding is_plain
returns c =
    rw
    (
    ne_eqb _ _ c.if-s-eq0.false
    )
