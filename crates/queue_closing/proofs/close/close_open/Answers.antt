use borrow.Author.Tests.{eq-eqb, le-ltb, lt-ltb, ne_eqb}
use Rattle.queue_closing.specs.Close.{close_open_words}
use Rattle.queue_closing.proofs.close.close_open.Goals as goal

-- `queue_closing::close::close_open` meets its contract: each return is what its definition says, by what the calls ensure and the tests taken. Assumes nothing.
pub returns-then-s-gt-NO_MESSAGE : goal.returns-then-s-gt-NO_MESSAGE
unfolding close_open_words
returns-then-s-gt-NO_MESSAGE c =
    rw
    (
    lt-ltb _ _ c.if-s-gt-NO_MESSAGE.true
    )

pub returns-then-s-eq-NO_MESSAGE : goal.returns-then-s-eq-NO_MESSAGE
unfolding close_open_words
returns-then-s-eq-NO_MESSAGE c = rw (le-ltb _ _ c.if-s-gt-NO_MESSAGE.false, eq-eqb _ _ c.if-s-eq-NO_MESSAGE.true, c.store_stream.ensures, c.with_pause-o.ensures)

pub returns-then-m-gt0 : goal.returns-then-m-gt0
unfolding close_open_words
returns-then-m-gt0 c =
    rw (
      le-ltb _ _ c.if-s-gt-NO_MESSAGE.false,
      ne_eqb _ _ c.if-s-eq-NO_MESSAGE.false,
      ← c.load_item-m.ensures,
      lt-ltb _ _ c.if-m-gt0.true,
      ← c.close_behind.ensures,
    )

pub returns : goal.returns
unfolding close_open_words
returns c =
    rw (
      le-ltb _ _ c.if-s-gt-NO_MESSAGE.false,
      ne_eqb _ _ c.if-s-eq-NO_MESSAGE.false,
      ← c.load_item-m.ensures,
      le-ltb _ _ c.if-m-gt0.false,
      ← c.close_whole.ensures,
    )
