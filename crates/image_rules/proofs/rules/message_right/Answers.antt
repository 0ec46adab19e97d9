-- `image_rules::rules::message_right` meets its contract: each return is what its definition says, by what the calls ensure and the tests taken. Assumes
-- nothing.
use Rattle.image_rules.specs.Messages.{message_right_words}
use Rattle.image_rules.proofs.rules.message_right.Goals as goal

pub returns-then-mid : goal.returns-then-mid
unfolding message_right_words
returns-then-mid c =
    rw (
      ← c.numbers_right-numbers.ensures,
      c.if-numbers.true,
      ← c.lifetime_right-lifetime.ensures,
      c.if-lifetime.true,
      ← c.mid_right-mid.ensures,
      c.if-mid.true,
      ← c.order_right.ensures,
    )

pub returns-then-lifetime : goal.returns-then-lifetime
unfolding message_right_words
returns-then-lifetime c =
    rw (
      ← c.numbers_right-numbers.ensures,
      c.if-numbers.true,
      ← c.lifetime_right-lifetime.ensures,
      c.if-lifetime.true,
      ← c.mid_right-mid.ensures,
      c.if-mid.false,
    )

pub returns-then-numbers : goal.returns-then-numbers
unfolding message_right_words
returns-then-numbers c =
    rw (
      ← c.numbers_right-numbers.ensures,
      c.if-numbers.true,
      ← c.lifetime_right-lifetime.ensures,
      c.if-lifetime.false,
    )

pub returns : goal.returns
unfolding message_right_words
returns c =
    rw (
      ← c.numbers_right-numbers.ensures,
      c.if-numbers.false,
    )
