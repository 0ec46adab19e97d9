use Rattle.message_chains.specs.Heads.{released}
use Rattle.message_chains.proofs.heads.release.Goals as goal

-- `message_chains::heads::release` meets its contract: each return is what its definition says, by what the calls ensure and the tests taken. Assumes nothing.
pub returns : goal.returns
unfolding released
returns c =
    rw (
      ← c.drop_payload.ensures,
      ← c.load_totals-t.ensures,
      ← c.store_next.ensures,
      ← c.minus.ensures,
      ← c.minus-2.ensures,
      ← c.store_totals.ensures,
    )
