-- `receiver_fragments::freeing::free_row` meets its contract: each return is what its definition says, by what the calls ensure and the tests taken.
-- Assumes nothing.
use Rattle.receiver_fragments.specs.Freeing.{free_row}
use Rattle.receiver_fragments.proofs.freeing.free_row.Goals as goal

pub returns : goal.returns
unfolding free_row
returns c =
    rw (
      ← c.unindex_held.ensures,
      ← c.unlink_row.ensures,
      ← c.drop_payload.ensures.1,
      ← c.give_free.ensures,
      ← c.load_header-held.ensures,
      ← c.less_one-left.ensures,
      ← c.store_header.ensures,
    )
