-- `handover::image::restore_code` meets its contract: each return is what its definition says, by what the calls ensure and the tests taken. Assumes nothing.
use borrow.Author.Tests.{eq-eqb, le-ltb, lt-ltb, ne_eqb}
use Rattle.handover.specs.Restore.{restore_code}
use Rattle.handover.proofs.image.restore_code.Goals as goal

pub returns-then-o-len : goal.returns-then-o-len
unfolding restore_code
returns-then-o-len c =
    rw (
      ← c.load_options-o.ensures,
      ne_eqb _ _ c.if-o-len.true,
    )

pub returns-then-time-gt-MAX_TIME : goal.returns-then-time-gt-MAX_TIME
unfolding restore_code
returns-then-time-gt-MAX_TIME c =
    rw (
      ← c.load_options-o.ensures,
      eq-eqb _ _ c.if-o-len.false,
      lt-ltb _ _ c.if-time-gt-MAX_TIME.true,
    )

pub returns-then-t-gt0 : goal.returns-then-t-gt0
unfolding restore_code
returns-then-t-gt0 c =
    rw (
      ← c.load_options-o.ensures,
      eq-eqb _ _ c.if-o-len.false,
      le-ltb _ _ c.if-time-gt-MAX_TIME.false,
      ← c.load_totals-t.ensures,
      lt-ltb _ _ c.if-t-gt0.true,
    )

pub returns-then-t-gt0-2 : goal.returns-then-t-gt0-2
unfolding restore_code
returns-then-t-gt0-2 c =
    rw (
      ← c.load_options-o.ensures,
      eq-eqb _ _ c.if-o-len.false,
      le-ltb _ _ c.if-time-gt-MAX_TIME.false,
      ← c.load_totals-t.ensures,
      le-ltb _ _ c.if-t-gt0.false,
      lt-ltb _ _ c.if-t-gt0-2.true,
    )

pub returns : goal.returns
unfolding restore_code
returns c =
    rw (
      ← c.load_options-o.ensures,
      eq-eqb _ _ c.if-o-len.false,
      le-ltb _ _ c.if-time-gt-MAX_TIME.false,
      ← c.load_totals-t.ensures,
      le-ltb _ _ c.if-t-gt0.false,
      le-ltb _ _ c.if-t-gt0-2.false,
      ← c.image_code.ensures,
    )
