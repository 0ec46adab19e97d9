use mathlib.Core.Path.{sym, ◌∙◌}
use Rattle.queue_messages.specs.Add.{started}
use Rattle.queue_messages.proofs.Tested.{room_of}
use Rattle.queue_messages.proofs.adding.start.Goals as goal

-- `queue_messages::adding::start` meets its contract: each return is what its definition says, by what the calls ensure and the test taken. Assumes nothing.
pub begin_own-requires : goal.begin_own-requires
begin_own-requires c =
    let e = c.starts-begins.ensures in
    room_of _ _ c.requires (sym e ∙ c.if-begins.true)

pub returns-then-begins : goal.returns-then-begins
unfolding started
returns-then-begins c =
    rw (
      ← c.starts-begins.ensures,
      c.if-begins.true,
      ← c.load_totals-t.ensures,
      ← c.parameters_for-p.ensures,
      ← c.begin_own.ensures,
    )

pub returns-else-begins : goal.returns-else-begins
unfolding started
returns-else-begins c =
    rw (
      ← c.starts-begins.ensures,
      c.if-begins.false,
    )
