-- `receiver_store::packing::pack_code` meets its contract: each return is what its definition says, by what the calls ensure and the tests taken.
-- Assumes nothing.
use Rattle.receiver_store.specs.Packing.{pack_code}
use Rattle.receiver_store.proofs.packing.pack_code.Goals as goal

pub returns-then-s : goal.returns-then-s
unfolding pack_code
returns-then-s c =
    rw (
      ← c.start_of-s.ensures,
      c.if-s.true,
    )

pub returns : goal.returns
unfolding pack_code
returns c =
    rw (
      ← c.start_of-s.ensures,
      c.if-s.false,
    )
