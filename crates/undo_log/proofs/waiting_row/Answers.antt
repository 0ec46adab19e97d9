use borrow.Author.Tests.{le-ltb, lt-ltb}
use mathlib.Core.Path.{refl}
use Rattle.undo_log.specs.Log.{waiting_row}
use native.Mathlib.Omega.{arith}
use Rattle.std.proofs.Common.{refl}
use Rattle.undo_log.proofs.waiting_row.Goals as goal

-- `undo_log::waiting_row` meets its contract: each return is what its definition says, by what the calls ensure and the tests taken. Assumes nothing.
pub returns-then-s-gt-STREAMS : goal.returns-then-s-gt-STREAMS
unfolding waiting_row
returns-then-s-gt-STREAMS c =
    rw (
      ← c.load_scheduler_state-s.ensures,
      lt-ltb _ _ c.if-s-gt-STREAMS.true,
    ) (refl, omega arith)

pub returns-then-at-gt-LAST_STREAM_ROW : goal.returns-then-at-gt-LAST_STREAM_ROW
unfolding waiting_row
returns-then-at-gt-LAST_STREAM_ROW c =
    rw (
      ← c.load_scheduler_state-s.ensures,
      le-ltb _ _ c.if-s-gt-STREAMS.false,
      ← c.seek-at.ensures,
      lt-ltb _ _ c.if-at-gt-LAST_STREAM_ROW.true,
    ) (refl, omega arith)

pub returns : goal.returns
unfolding waiting_row
returns c =
    rw (
      ← c.load_scheduler_state-s.ensures,
      le-ltb _ _ c.if-s-gt-STREAMS.false,
      ← c.seek-at.ensures,
      le-ltb _ _ c.if-at-gt-LAST_STREAM_ROW.false,
    ) (refl, omega arith)
