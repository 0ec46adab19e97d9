use borrow.Author.Tests.{le-ltb, lt-ltb}
use Rattle.undo_log.specs.Log.{kept_drop}
use Rattle.undo_log.proofs.keep_drop.Goals as goal

-- `undo_log::keep_drop` meets its contract: each return is what its definition says, by what the calls ensure and the tests taken. Assumes nothing.
pub returns-then-row-gt-LAST_STREAM_ROW : goal.returns-then-row-gt-LAST_STREAM_ROW
unfolding kept_drop
returns-then-row-gt-LAST_STREAM_ROW c =
    rw
    (
    lt-ltb _ _ c.if-row-gt-LAST_STREAM_ROW.true
    )

pub returns-then-s-gt-LAST_MESSAGE : goal.returns-then-s-gt-LAST_MESSAGE
unfolding kept_drop
returns-then-s-gt-LAST_MESSAGE c =
    rw (
      le-ltb _ _ c.if-row-gt-LAST_STREAM_ROW.false,
      ← c.load_stream-s.ensures,
      lt-ltb _ _ c.if-s-gt-LAST_MESSAGE.true,
    )

pub returns : goal.returns
unfolding kept_drop
returns c =
    rw (
      le-ltb _ _ c.if-row-gt-LAST_STREAM_ROW.false,
      ← c.load_stream-s.ensures,
      le-ltb _ _ c.if-s-gt-LAST_MESSAGE.false,
      ← c.waiting_row-at.ensures.0,
      ← c.keep_rows.ensures,
    )
