-- `payload_store::drop_payload` meets its contract: each way out is a case of `drop_payload`. Assumes nothing.
use native.Mathlib.Omega.{arith}
use mathlib.Core.Path.{ap}
use Rattle.queue_words.specs.declared.header.Totals.{Totals}
use Rattle.payload_store.proofs.Drops.{drop_held, drop_all, drop_some}
use Rattle.payload_store.proofs.drop_payload.Goals as goal

pub load_length-size-requires : goal.load_length-size-requires
load_length-size-requires c = (drop_held _ _ c.requires).row

pub load_place-place-requires : goal.load_place-place-requires
load_place-place-requires c = (drop_held _ _ c.requires).row

pub store_length-requires : goal.store_length-requires
store_length-requires c = (drop_held _ _ c.requires).row

pub returns-then-t-size : goal.returns-then-t-size
returns-then-t-size c = drop_all _ _ _ _ _ _ _ _ c.requires c.load_length-size.ensures c.load_place-place.ensures c.load_totals-t.ensures c.gaps_left-g.ensures c.store_length.ensures c.if-t-size.true c.store_bytes.ensures

pub overflow_sub-t : goal.overflow_sub-t
overflow_sub-t c =
    let o = drop_held _ _ c.requires in
    omega (arith, o.in_used, ap (λ (t : Totals). t.used) c.load_totals-t.ensures, c.load_length-size.ensures)

pub returns : goal.returns
returns c = drop_some _ _ _ _ _ _ _ _ c.requires c.load_length-size.ensures c.load_place-place.ensures c.load_totals-t.ensures c.gaps_left-g.ensures c.store_length.ensures c.if-t-size.false c.store_bytes-2.ensures
