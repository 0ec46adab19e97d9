use borrow.Author.Tests.{eq-eqb, le-ltb, lt-ltb, ne_eqb}
use Rattle.queue_messages.specs.Discard.{discard_in}
use Rattle.queue_messages.proofs.discarding.discard_in.Goals as goal

-- `queue_messages::discarding::discard_in` meets its contract: each return is what its definition says, by what the calls ensure and the tests taken.
-- Assumes nothing.
pub returns-then-s-gt-NO_MESSAGE : goal.returns-then-s-gt-NO_MESSAGE
unfolding discard_in
returns-then-s-gt-NO_MESSAGE c =
    rw (
      ← c.load_stream-s.ensures,
      lt-ltb _ _ c.if-s-gt-NO_MESSAGE.true,
    )

pub returns-then-s-eq-NO_MESSAGE : goal.returns-then-s-eq-NO_MESSAGE
unfolding discard_in
returns-then-s-eq-NO_MESSAGE c =
    rw (
      ← c.load_stream-s.ensures,
      le-ltb _ _ c.if-s-gt-NO_MESSAGE.false,
      eq-eqb _ _ c.if-s-eq-NO_MESSAGE.true,
    )

pub returns-then-m-message_id : goal.returns-then-m-message_id
unfolding discard_in
returns-then-m-message_id c =
    rw (
      ← c.drop_first.ensures,
      ← c.load_stream-s.ensures,
      le-ltb _ _ c.if-s-gt-NO_MESSAGE.false,
      ne_eqb _ _ c.if-s-eq-NO_MESSAGE.false,
      ← c.load_item-m.ensures,
      eq-eqb _ _ c.if-m-message_id.true,
    )

pub returns : goal.returns
unfolding discard_in
returns c =
    rw (
      ← c.load_stream-s.ensures,
      le-ltb _ _ c.if-s-gt-NO_MESSAGE.false,
      ne_eqb _ _ c.if-s-eq-NO_MESSAGE.false,
      ← c.load_item-m.ensures,
      ne_eqb _ _ c.if-m-message_id.false,
    )
