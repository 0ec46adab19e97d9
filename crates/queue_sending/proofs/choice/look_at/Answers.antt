-- `queue_sending::choice::look_at` meets its contract: each return is what its definition says, by what the calls ensure and the tests taken. Assumes nothing.
use borrow.Author.Tests.{le-ltb, lt-ltb}
use Rattle.queue_sending.specs.Choice.{look_at_words}
use Rattle.queue_sending.proofs.choice.look_at.Goals as goal

pub returns-then-s-gt-LAST_MESSAGE : goal.returns-then-s-gt-LAST_MESSAGE
unfolding look_at_words
returns-then-s-gt-LAST_MESSAGE c =
    rw (
      ← c.load_stream-s.ensures,
      lt-ltb _ _ c.if-s-gt-LAST_MESSAGE.true,
    )

pub returns-then-gone : goal.returns-then-gone
unfolding look_at_words
returns-then-gone c =
    rw (
      ← c.load_stream-s.ensures,
      le-ltb _ _ c.if-s-gt-LAST_MESSAGE.false,
      ← c.load_item-m.ensures,
      ← c.expired-gone.ensures,
      c.if-gone.true,
    )

pub returns : goal.returns
unfolding look_at_words
returns c =
    rw (
      ← c.load_stream-s.ensures,
      le-ltb _ _ c.if-s-gt-LAST_MESSAGE.false,
      ← c.load_item-m.ensures,
      ← c.expired-gone.ensures,
      c.if-gone.false,
    )
