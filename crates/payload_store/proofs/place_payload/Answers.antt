-- `payload_store::place_payload` meets its contract: the four stores are those of `placed`. Assumes nothing.
use Rattle.payload_store.proofs.Parts.{placed_is}
use Rattle.payload_store.proofs.place_payload.Goals as goal

pub returns : goal.returns
returns c = placed_is _ _ _ _ _ _ _ _ _ _ c.load_totals-t.ensures c.write_part.ensures c.store_place.ensures c.store_length.ensures c.store_bytes.ensures
