-- `receiver_fragments::holding::next_of` meets its contract: each return is what its definition says, by what the calls ensure and the tests taken.
-- Assumes nothing.
use borrow.Author.Tests.{le-leb, lt-leb}
use Rattle.receiver_fragments.specs.Holding.{next_of}
use Rattle.receiver_fragments.proofs.holding.next_of.Goals as goal

pub returns-then-t-known : goal.returns-then-t-known
unfolding next_of
returns-then-t-known c =
    rw (
      ← c.load_header-known.ensures,
      le-leb _ _ c.if-t-known.true,
    )

pub returns : goal.returns
unfolding next_of
returns c =
    rw (
      ← c.load_header-known.ensures,
      lt-leb _ _ c.if-t-known.false,
      c.load_turn-turn.ensures,
    )
