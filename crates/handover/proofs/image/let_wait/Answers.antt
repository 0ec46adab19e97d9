-- `handover::image::let_wait` meets its contract: each return is what its definition says, by what the calls ensure and the tests taken. Assumes nothing.
use borrow.Author.Tests.{le-ltb, lt-ltb}
use Rattle.handover.specs.Restore.{all_waiting}
use Rattle.handover.proofs.image.let_wait.Goals as goal

pub returns-then-t-gt-STREAMS : goal.returns-then-t-gt-STREAMS
unfolding all_waiting
returns-then-t-gt-STREAMS c =
    rw (
      ← c.load_totals-t.ensures,
      lt-ltb _ _ c.if-t-gt-STREAMS.true,
    )

pub returns-then-t : goal.returns-then-t
unfolding all_waiting
returns-then-t c =
    rw (
      ← c.load_totals-t.ensures,
      le-ltb _ _ c.if-t-gt-STREAMS.false,
      ← c.wait_all.ensures,
      c.if-t.true,
    )

pub returns : goal.returns
unfolding all_waiting
returns c =
    rw (
      ← c.load_totals-t.ensures,
      le-ltb _ _ c.if-t-gt-STREAMS.false,
      ← c.wait_all.ensures,
      c.if-t.false,
      ← c.remember_half_sent.ensures,
    )
