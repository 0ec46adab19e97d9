-- `queue_streams::known::insert_stream` meets its contract: the four stores in turn (proofs/Exits.antt). Assumes nothing.
use Rattle.queue_streams.proofs.Exits.{insert_done}
use Rattle.queue_streams.proofs.known.insert_stream.Goals as goal

pub returns : goal.returns
returns c = insert_done _ _ _ _ _ _ _ _ _ c.load_totals-t.ensures c.make_room.ensures c.store_known.ensures c.store_stream.ensures c.store_totals.ensures
