-- `message_chains::dropping::drop_own` meets its contract: what is loaded is the stream in the row and its head, and its drop is what follows the tests
use Rattle.message_chains.proofs.Own.{own_first, own_may, own_drop}
use Rattle.message_chains.proofs.dropping.drop_own.Goals as goal

pub drop_head-requires : goal.drop_head-requires
drop_head-requires c =
    let y = c.requires in
    let es = c.load_stream-s.ensures in
    (y.row_fits, own_first _ _ _ y _ es, own_may _ _ _ y _ es _ _ c.load_item-m.ensures c.schedule_own.ensures)

pub returns : goal.returns
returns c = own_drop _ _ _ c.requires _ c.load_stream-s.ensures _ _ _ _ _ _ _ _ c.load_item-m.ensures c.schedule_own.ensures c.end_pending-after.ensures c.drop_head.ensures.0 c.drop_head.ensures.1
