use borrow.Author.Tests.{eq-eqb, le-ltb, lt-ltb, ne_eqb}
use Rattle.queue_messages.specs.Add.{places_code}
use Rattle.queue_messages.proofs.adding.places_code.Goals as goal

-- `queue_messages::adding::places_code` meets its contract: each return is what its definition says, by what the calls ensure and the tests taken.
-- Assumes nothing.
pub returns-then-free-gt-LAST_MESSAGE : goal.returns-then-free-gt-LAST_MESSAGE
unfolding places_code
returns-then-free-gt-LAST_MESSAGE c =
    rw
    (
    lt-ltb _ _ c.if-free-gt-LAST_MESSAGE.true
    )

pub returns-then-next-gt-NO_MESSAGE : goal.returns-then-next-gt-NO_MESSAGE
unfolding places_code
returns-then-next-gt-NO_MESSAGE c =
    rw (
      le-ltb _ _ c.if-free-gt-LAST_MESSAGE.false,
      ← c.load_next-next.ensures,
      lt-ltb _ _ c.if-next-gt-NO_MESSAGE.true,
    )

pub returns-then-s-gt-NO_MESSAGE : goal.returns-then-s-gt-NO_MESSAGE
unfolding places_code
returns-then-s-gt-NO_MESSAGE c =
    rw (
      le-ltb _ _ c.if-free-gt-LAST_MESSAGE.false,
      ← c.load_next-next.ensures,
      le-ltb _ _ c.if-next-gt-NO_MESSAGE.false,
      lt-ltb _ _ c.if-s-gt-NO_MESSAGE.true,
    )

pub returns-then-s-eq-NO_MESSAGE : goal.returns-then-s-eq-NO_MESSAGE
unfolding places_code
returns-then-s-eq-NO_MESSAGE c =
    rw (
      le-ltb _ _ c.if-free-gt-LAST_MESSAGE.false,
      ← c.load_next-next.ensures,
      le-ltb _ _ c.if-next-gt-NO_MESSAGE.false,
      le-ltb _ _ c.if-s-gt-NO_MESSAGE.false,
      eq-eqb _ _ c.if-s-eq-NO_MESSAGE.true,
    )

pub returns-then-s-gt-LAST_MESSAGE : goal.returns-then-s-gt-LAST_MESSAGE
unfolding places_code
returns-then-s-gt-LAST_MESSAGE c =
    rw (
      le-ltb _ _ c.if-free-gt-LAST_MESSAGE.false,
      ← c.load_next-next.ensures,
      le-ltb _ _ c.if-next-gt-NO_MESSAGE.false,
      le-ltb _ _ c.if-s-gt-NO_MESSAGE.false,
      ne_eqb _ _ c.if-s-eq-NO_MESSAGE.false,
      lt-ltb _ _ c.if-s-gt-LAST_MESSAGE.true,
    )

pub returns : goal.returns
unfolding places_code
returns c =
    rw (
      le-ltb _ _ c.if-free-gt-LAST_MESSAGE.false,
      ← c.load_next-next.ensures,
      le-ltb _ _ c.if-next-gt-NO_MESSAGE.false,
      le-ltb _ _ c.if-s-gt-NO_MESSAGE.false,
      ne_eqb _ _ c.if-s-eq-NO_MESSAGE.false,
      le-ltb _ _ c.if-s-gt-LAST_MESSAGE.false,
    )
