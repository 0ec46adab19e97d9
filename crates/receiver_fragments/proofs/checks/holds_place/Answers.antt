-- `receiver_fragments::checks::holds_place` meets its contract: each return is what its definition says, by what the calls ensure and the tests taken.
-- Assumes nothing.
use Rattle.receiver_fragments.specs.Checks.{holds_place}
use Rattle.receiver_fragments.proofs.checks.holds_place.Goals as goal

pub returns-then-interleaved : goal.returns-then-interleaved
unfolding holds_place
returns-then-interleaved c =
    rw (
      c.if-interleaved.true,
      ← c.find_row-j.ensures,
    )

pub returns : goal.returns
unfolding holds_place
returns c =
    rw
    (
    c.if-interleaved.false
    )
