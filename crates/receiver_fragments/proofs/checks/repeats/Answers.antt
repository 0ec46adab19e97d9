-- `receiver_fragments::checks::repeats` meets its contract: each return is what its definition says, by what the calls ensure and the tests taken.
-- Assumes nothing.
use Rattle.receiver_fragments.specs.Checks.{repeats}
use Rattle.receiver_fragments.proofs.checks.repeats.Goals as goal

pub returns-then-ahead : goal.returns-then-ahead
unfolding repeats
returns-then-ahead c =
    rw (
      ← c.after-new.ensures,
      c.if-new.true,
      ← c.is_ahead-ahead.ensures,
      c.if-ahead.true,
    )

pub returns-then-new : goal.returns-then-new
unfolding repeats
returns-then-new c =
    rw (
      ← c.after-new.ensures,
      c.if-new.true,
      ← c.is_ahead-ahead.ensures,
      c.if-ahead.false,
      ← c.holds_place.ensures,
    )

pub returns : goal.returns
unfolding repeats
returns c =
    rw (
      ← c.after-new.ensures,
      c.if-new.false,
    )
