-- `image_rules::rules::message_kept` meets its contract: each return is what its definition says, by what the calls ensure and the tests taken. Assumes
-- nothing.
use Rattle.image_rules.specs.Messages.{message_kept}
use Rattle.image_rules.proofs.rules.message_kept.Goals as goal

pub returns-then-early : goal.returns-then-early
unfolding message_kept
returns-then-early c =
    rw (
      ← c.mid_early-early.ensures,
      c.if-early.true,
    )

pub returns : goal.returns
unfolding message_kept
returns c =
    rw (
      ← c.mid_early-early.ensures,
      c.if-early.false,
      ← c.message_right.ensures,
    )
