-- `receiver_store::packing::move_together` meets its contract. Assumes nothing.
use Rattle.receiver_store.proofs.Exits.{all_moved}
use Rattle.receiver_store.proofs.packing.move_together.Goals as goal

pub returns : goal.returns
returns c = all_moved _ _ _ _ _ _ _ _ c.start_of-s.ensures c.move_rows.ensures c.store_header.ensures
