use Rattle.message_chains.specs.Heads.{without_head}
use Rattle.message_chains.proofs.heads.without_head.Goals as goal

-- `message_chains::heads::without_head` meets its contract: each return is what its definition says, by what the calls ensure and the tests taken.
-- Assumes nothing.
pub returns : goal.returns
unfolding without_head
returns c =
    rw (
      c.with_pause-o.ensures,
      ← c.minus.ensures,
      ← c.last_behind.ensures,
    )
