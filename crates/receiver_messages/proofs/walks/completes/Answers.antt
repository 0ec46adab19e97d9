-- `receiver_messages::walks::completes` meets its contract: each return is what its definition says, by what the calls ensure and the tests taken.
-- Assumes nothing.
use Rattle.receiver_messages.specs.Walks.{completes}
use Rattle.receiver_messages.proofs.Beside.{alone_after, alone_before}
use mathlib.Core.Path.{sym, ◌∙◌}
use Rattle.receiver_messages.proofs.walks.completes.Goals as goal

pub returns-then-after : goal.returns-then-after
returns-then-after c = alone_after _ _ _ (sym c.missing_after-after.ensures ∙ c.if-after.true)

pub returns-then-before : goal.returns-then-before
returns-then-before c = alone_before _ _ _ (sym c.missing_before-before.ensures ∙ c.if-before.true)

pub returns-then-on : goal.returns-then-on
unfolding completes
returns-then-on c =
    rw (
      ← c.reaches_last-on.ensures,
      c.if-on.true,
      ← c.first_row.ensures,
    )

pub returns : goal.returns
unfolding completes
returns c =
    rw (
      ← c.reaches_last-on.ensures,
      c.if-on.false,
    )
