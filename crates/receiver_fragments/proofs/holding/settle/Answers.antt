-- `receiver_fragments::holding::settle` meets its contract: each return is what its definition says, by what the calls ensure and the tests taken.
-- Assumes nothing.
use borrow.Author.Tests.{le-leb, lt-leb}
use Rattle.receiver_fragments.specs.Holding.{settle, completed}
use Rattle.receiver_fragments.proofs.holding.settle.Goals as goal

pub returns-then-h-ge4096 : goal.returns-then-h-ge4096
unfolding settle completed
returns-then-h-ge4096 c =
    rw (
      ← c.next_of-next.ensures,
      ← c.completes-h.ensures,
      le-leb _ _ c.if-h-ge4096.true,
      ← c.set_turn.ensures,
    )

pub returns : goal.returns
unfolding settle completed
returns c =
    rw (
      ← c.next_of-next.ensures,
      ← c.completes-h.ensures,
      lt-leb _ _ c.if-h-ge4096.false,
      ← c.mark_whole.ensures,
      ← c.load_fragment-f.ensures,
      ← c.queue_up-then.ensures,
      ← c.set_turn-2.ensures,
    )
