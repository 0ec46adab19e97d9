-- `queue_sending::numbers::numbered_item` meets its contract: each return is what its definition says, by what the calls ensure and the tests taken.
-- Assumes nothing.
use Rattle.queue_sending.specs.Numbers.{numbered_item}
use Rattle.queue_sending.proofs.numbers.numbered_item.Goals as goal

pub returns-then-given : goal.returns-then-given
unfolding numbered_item
returns-then-given c =
    rw (
      ← c.is_some-given.ensures,
      c.if-given.true,
    )

pub returns : goal.returns
unfolding numbered_item
returns c =
    rw (
      ← c.is_some-given.ensures,
      c.if-given.false,
      ← c.next_numbers-next.ensures,
    )
    c.with_numbers.ensures
