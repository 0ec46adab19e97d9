-- `image_rules::rules::numbers_right` meets its contract: each return is what its definition says, by what the calls ensure and the tests taken. Assumes
-- nothing.
use borrow.Author.Tests.{eq-eqb, le-ltb, lt-ltb, ne_eqb}
use Rattle.image_rules.specs.Messages.{numbers_right}
use Rattle.image_rules.proofs.rules.numbers_right.Goals as goal

pub returns-then-m-gt7 : goal.returns-then-m-gt7
unfolding numbers_right
returns-then-m-gt7 c =
    rw
    (
    lt-ltb _ _ c.if-m-gt7.true
    )

pub returns-then-m-gt2147483647 : goal.returns-then-m-gt2147483647
unfolding numbers_right
returns-then-m-gt2147483647 c =
    rw (
      le-ltb _ _ c.if-m-gt7.false,
      eq-eqb _ _ c.if-m-eq0.true,
      lt-ltb _ _ c.if-m-gt2147483647.true,
    )

pub returns-then-m-lt1 : goal.returns-then-m-lt1
unfolding numbers_right
returns-then-m-lt1 c =
    rw (
      le-ltb _ _ c.if-m-gt7.false,
      eq-eqb _ _ c.if-m-eq0.true,
      le-ltb _ _ c.if-m-gt2147483647.false,
      lt-ltb _ _ c.if-m-lt1.true,
    )

pub returns-then-m-gt-MAX_LENGTH : goal.returns-then-m-gt-MAX_LENGTH
unfolding numbers_right
returns-then-m-gt-MAX_LENGTH c =
    rw (
      le-ltb _ _ c.if-m-gt7.false,
      eq-eqb _ _ c.if-m-eq0.true,
      le-ltb _ _ c.if-m-gt2147483647.false,
      le-ltb _ _ c.if-m-lt1.false,
      lt-ltb _ _ c.if-m-gt-MAX_LENGTH.true,
    )

pub returns-then-m-eq0 : goal.returns-then-m-eq0
unfolding numbers_right
returns-then-m-eq0 c =
    rw (
      le-ltb _ _ c.if-m-gt7.false,
      eq-eqb _ _ c.if-m-eq0.true,
      le-ltb _ _ c.if-m-gt2147483647.false,
      le-ltb _ _ c.if-m-lt1.false,
      le-ltb _ _ c.if-m-gt-MAX_LENGTH.false,
    )

pub returns : goal.returns
unfolding numbers_right
returns c =
    rw (
      le-ltb _ _ c.if-m-gt7.false,
      ne_eqb _ _ c.if-m-eq0.false,
    )
