-- `queue_sending::fragment::chosen_code` meets its contract: each return is what its definition says, by what the calls ensure and the tests taken.
-- Assumes nothing.
use borrow.Author.Tests.{le-ltb, lt-ltb}
use Rattle.queue_sending.specs.Fragment.{chosen_code}
use Rattle.queue_sending.proofs.fragment.chosen_code.Goals as goal

pub returns-then-k-gt-MOST_BEFORE_FRAGMENT : goal.returns-then-k-gt-MOST_BEFORE_FRAGMENT
unfolding chosen_code
returns-then-k-gt-MOST_BEFORE_FRAGMENT c =
    rw
    (
    lt-ltb _ _ c.if-k-gt-MOST_BEFORE_FRAGMENT.true
    )

pub returns-then-at-gt-LAST_STREAM_ROW : goal.returns-then-at-gt-LAST_STREAM_ROW
unfolding chosen_code
returns-then-at-gt-LAST_STREAM_ROW c =
    rw (
      le-ltb _ _ c.if-k-gt-MOST_BEFORE_FRAGMENT.false,
      lt-ltb _ _ c.if-at-gt-LAST_STREAM_ROW.true,
    )

pub returns-then-row-gt-LAST_STREAM_ROW : goal.returns-then-row-gt-LAST_STREAM_ROW
unfolding chosen_code
returns-then-row-gt-LAST_STREAM_ROW c =
    rw (
      le-ltb _ _ c.if-k-gt-MOST_BEFORE_FRAGMENT.false,
      le-ltb _ _ c.if-at-gt-LAST_STREAM_ROW.false,
      lt-ltb _ _ c.if-row-gt-LAST_STREAM_ROW.true,
    )

pub returns-then-s-gt-LAST_MESSAGE : goal.returns-then-s-gt-LAST_MESSAGE
unfolding chosen_code
returns-then-s-gt-LAST_MESSAGE c =
    rw (
      le-ltb _ _ c.if-k-gt-MOST_BEFORE_FRAGMENT.false,
      le-ltb _ _ c.if-at-gt-LAST_STREAM_ROW.false,
      le-ltb _ _ c.if-row-gt-LAST_STREAM_ROW.false,
      ← c.load_stream-s.ensures,
      lt-ltb _ _ c.if-s-gt-LAST_MESSAGE.true,
    )

pub returns : goal.returns
unfolding chosen_code
returns c =
    rw (
      le-ltb _ _ c.if-k-gt-MOST_BEFORE_FRAGMENT.false,
      le-ltb _ _ c.if-at-gt-LAST_STREAM_ROW.false,
      le-ltb _ _ c.if-row-gt-LAST_STREAM_ROW.false,
      ← c.load_stream-s.ensures,
      le-ltb _ _ c.if-s-gt-LAST_MESSAGE.false,
      ← c.load_item-m.ensures,
      ← c.load_active-a.ensures,
      ← c.least-n.ensures,
      ← c.send_code.ensures,
    )
