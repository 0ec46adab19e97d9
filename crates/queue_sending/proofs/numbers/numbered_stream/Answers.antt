-- `queue_sending::numbers::numbered_stream` meets its contract: each return is what its definition says, by what the calls ensure and the tests taken.
-- Assumes nothing.
use Rattle.queue_sending.specs.Numbers.{numbered_stream}
use Rattle.queue_sending.proofs.numbers.numbered_stream.Goals as goal

pub returns-then-given : goal.returns-then-given
unfolding numbered_stream
returns-then-given c =
    rw (
      ← c.is_some-given.ensures,
      c.if-given.true,
    )

pub returns-then-m : goal.returns-then-m
unfolding numbered_stream
returns-then-m c =
    rw (
      ← c.is_some-given.ensures,
      c.if-given.false,
      c.if-m.true,
      ← c.add_to-mid.ensures,
    )

pub returns : goal.returns
unfolding numbered_stream
returns c =
    rw (
      ← c.is_some-given.ensures,
      c.if-given.false,
      c.if-m.false,
      ← c.add_to-mid-2.ensures,
      ← c.add_to-ssn.ensures,
    )
