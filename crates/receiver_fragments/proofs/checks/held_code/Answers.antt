-- `receiver_fragments::checks::held_code` meets its contract: each return is what its definition says, by what the calls ensure and the tests taken.
-- Assumes nothing.
use Rattle.receiver_fragments.specs.Checks.{held_code}
use Rattle.receiver_fragments.proofs.checks.held_code.Goals as goal

pub returns-then-same : goal.returns-then-same
unfolding held_code
returns-then-same c =
    rw (
      ← c.load_fragment-g.ensures,
      ← c.same_fields-same.ensures,
      c.if-same.true,
      ← c.same_code.ensures,
    )

pub returns : goal.returns
unfolding held_code
returns c =
    rw (
      ← c.load_fragment-g.ensures,
      ← c.same_fields-same.ensures,
      c.if-same.false,
    )
