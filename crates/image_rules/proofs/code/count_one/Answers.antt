-- `image_rules::code::count_one` meets its contract: each return is what its definition says, by what the calls ensure and the tests taken. Assumes nothing.
use borrow.Author.Tests.{le-ltb, lt-ltb}
use Rattle.image_rules.specs.Cursor.{one_counted}
use Rattle.image_rules.proofs.code.count_one.Goals as goal

pub returns-then-id-least : goal.returns-then-id-least
unfolding one_counted
returns-then-id-least c =
    rw
    (
    lt-ltb _ _ c.if-id-least.true
    )

pub returns-then-old : goal.returns-then-old
unfolding one_counted
returns-then-old c =
    rw (
      le-ltb _ _ c.if-id-least.false,
      ← c.move_on-place.ensures,
      ← c.is_named-old.ensures,
      c.if-old.true,
    )

pub returns : goal.returns
unfolding one_counted
returns c =
    rw (
      le-ltb _ _ c.if-id-least.false,
      ← c.move_on-place.ensures,
      ← c.is_named-old.ensures,
      c.if-old.false,
    )
