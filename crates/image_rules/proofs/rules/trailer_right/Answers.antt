-- `image_rules::rules::trailer_right` meets its contract: each return is what its definition says, by what the calls ensure and the tests taken. Assumes
-- nothing.
use borrow.Author.Tests.{eq-eqb, ne_eqb}
use Rattle.image_rules.specs.Trailers.{trailer_right_words}
use Rattle.image_rules.proofs.rules.trailer_right.Goals as goal

pub returns-then-t : goal.returns-then-t
unfolding trailer_right_words
returns-then-t c =
    rw (
      eq-eqb _ _ c.if-t-eq1.true,
      eq-eqb _ _ c.if-t-size.true,
      eq-eqb _ _ c.if-t.true,
    )

pub returns-then-t-size : goal.returns-then-t-size
unfolding trailer_right_words
returns-then-t-size c =
    rw (
      eq-eqb _ _ c.if-t-eq1.true,
      eq-eqb _ _ c.if-t-size.true,
      ne_eqb _ _ c.if-t.false,
    )

pub returns-then-t-eq1 : goal.returns-then-t-eq1
unfolding trailer_right_words
returns-then-t-eq1 c =
    rw (
      eq-eqb _ _ c.if-t-eq1.true,
      ne_eqb _ _ c.if-t-size.false,
    )

pub returns : goal.returns
unfolding trailer_right_words
returns c =
    rw
    (
    ne_eqb _ _ c.if-t-eq1.false
    )
