-- `receiver_messages::walks::part_after` meets its contract: each return is what its definition says, by what the calls ensure and the tests taken.
-- Assumes nothing.
use Rattle.receiver_messages.specs.Walks.{part_after}
use Rattle.receiver_messages.proofs.walks.part_after.Goals as goal

pub returns : goal.returns
unfolding part_after
returns c =
    rw (
      ← c.load_fragment-f.ensures,
      ← c.following-key.ensures,
      ← c.part_index-k.ensures.0,
      ← c.find_row.ensures,
    )
