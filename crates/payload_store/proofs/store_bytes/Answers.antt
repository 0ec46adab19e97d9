-- `payload_store::store_bytes` meets its contract: the totals are stored with the two fields changed. Assumes nothing.
use Rattle.payload_store.proofs.Parts.{bytes_are}
use Rattle.payload_store.proofs.store_bytes.Goals as goal

pub returns : goal.returns
returns c = bytes_are _ _ _ _ _ c.load_totals-t.ensures c.store_totals.ensures
