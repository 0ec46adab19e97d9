-- `receiver_fragments::checks::is_ahead` meets its contract: each return is what its definition says, by what the calls ensure and the tests taken.
-- Assumes nothing.
use Rattle.receiver_fragments.specs.Checks.{is_ahead}
use Rattle.receiver_fragments.proofs.checks.is_ahead.Goals as goal

pub returns-then-beyond : goal.returns-then-beyond
unfolding is_ahead
returns-then-beyond c =
    rw (
      ← c.far-beyond.ensures,
      c.if-beyond.true,
    )

pub returns : goal.returns
unfolding is_ahead
returns c =
    rw (
      ← c.far-beyond.ensures,
      c.if-beyond.false,
      ← c.load_ahead.ensures,
    )
