-- `payload_store::put_own` meets its contract: each way out is a case of `put_payload`, by its test. Assumes nothing.
use Rattle.payload_store.proofs.Own.{own_order, own_gap, own_room, own_elsewhere, own_end, own_other}
use Rattle.payload_store.proofs.put_own.Goals as goal

pub gap_for-g-requires : goal.gap_for-g-requires
gap_for-g-requires c = own_order c.args.queue.now c.args.store.now c.args.payload.now c.args.i c.requires _ c.load_totals-t.ensures

pub overflow_sub-g : goal.overflow_sub-g
overflow_sub-g c = own_gap c.args.queue.now c.args.store.now c.args.payload.now c.args.i c.requires _ c.load_totals-t.ensures _ c.gap_for-g.ensures

pub place_payload-requires : goal.place_payload-requires
place_payload-requires c = own_room c.args.queue.now c.args.store.now c.args.payload.now c.args.i c.requires _ c.load_totals-t.ensures _ c.gap_for-g.ensures c.if-n-g.true

pub returns-then-n-g : goal.returns-then-n-g
returns-then-n-g c = own_end c.args.queue.now c.args.store.now c.args.payload.now c.args.i c.requires _ c.load_totals-t.ensures _ c.gap_for-g.ensures _ c.if-n-g.true c.place_payload.ensures

pub put_elsewhere-requires : goal.put_elsewhere-requires
put_elsewhere-requires c = own_elsewhere c.args.queue.now c.args.store.now c.args.payload.now c.args.i c.requires _ c.load_totals-t.ensures _ c.gap_for-g.ensures

pub returns : goal.returns
returns c = own_other c.args.queue.now c.args.store.now c.args.payload.now c.args.i c.requires _ c.load_totals-t.ensures _ c.gap_for-g.ensures _ c.if-n-g.false c.put_elsewhere.ensures
