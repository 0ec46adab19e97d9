-- `receiver_fragments::holding::set_turn` meets its contract: each return is what its definition says, by what the calls ensure and the tests taken.
-- Assumes nothing.
use borrow.Author.Tests.{le-leb, lt-leb}
use Rattle.receiver_fragments.specs.Holding.{set_turn}
use Rattle.receiver_fragments.proofs.holding.set_turn.Goals as goal

pub returns-then-t-known : goal.returns-then-t-known
unfolding set_turn
returns-then-t-known c =
    rw (
      ← c.load_header-known.ensures,
      ← c.store_turn.ensures,
      le-leb _ _ c.if-t-known.true,
      ← c.store_header.ensures,
    )

pub returns : goal.returns
unfolding set_turn
returns c =
    rw (
      ← c.load_header-known.ensures,
      ← c.store_turn.ensures,
      lt-leb _ _ c.if-t-known.false,
    )
