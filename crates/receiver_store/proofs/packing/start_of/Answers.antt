-- `receiver_store::packing::start_of` meets its contract. Assumes nothing.
use Rattle.receiver_store.specs.Packing.{start_of}
use Rattle.receiver_store.proofs.packing.start_of.Goals as goal

pub returns : goal.returns
unfolding start_of
returns c =
    rw (
      ← c.load_header-used.ensures,
      ← c.goal_of-goal.ensures,
      ← c.load_header-newest.ensures,
      ← c.load_header-end.ensures,
    )
    c.find_start.ensures
