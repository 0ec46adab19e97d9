-- `receiver_store::place_payload` meets its contract: the five stores are those of `placed`. Assumes nothing.
use Rattle.receiver_store.proofs.Exits.{placed_is}
use Rattle.receiver_store.proofs.place_payload.Goals as goal

pub returns : goal.returns
returns c = placed_is _ _ _ _ _ _ _ _ _ _ _ c.load_header-end.ensures c.load_header-used.ensures c.write_part.ensures c.store_link.ensures c.store_link-2.ensures c.store_header.ensures c.store_header-2.ensures
