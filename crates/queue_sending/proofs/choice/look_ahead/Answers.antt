-- `queue_sending::choice::look_ahead` meets its contract: each return is what its definition says, by what the calls ensure and the tests taken. Assumes
-- nothing.
use borrow.Author.Tests.{le-ltb, lt-ltb}
use Rattle.queue_sending.specs.Choice.{look_ahead}
use Rattle.queue_sending.proofs.choice.look_ahead.Goals as goal

pub returns-then-at-gt-LAST_STREAM_ROW : goal.returns-then-at-gt-LAST_STREAM_ROW
unfolding look_ahead
returns-then-at-gt-LAST_STREAM_ROW c =
    rw (
      ← c.in-At.ensures,
      lt-ltb _ _ c.if-at-gt-LAST_STREAM_ROW.true,
    )

pub returns-else-at-gt-LAST_STREAM_ROW : goal.returns-else-at-gt-LAST_STREAM_ROW
unfolding look_ahead
returns-else-at-gt-LAST_STREAM_ROW c =
    rw (
      ← c.in-At.ensures,
      le-ltb _ _ c.if-at-gt-LAST_STREAM_ROW.false,
      ← c.load_active-a.ensures,
      ← c.look_for.ensures,
    )

pub returns-in-Nothing : goal.returns-in-Nothing
unfolding look_ahead
returns-in-Nothing c =
    rw (← c.in-Nothing.ensures)

pub returns-in-Broken : goal.returns-in-Broken
unfolding look_ahead
returns-in-Broken c =
    rw (← c.in-Broken.ensures)
