-- `receiver_store::packing::move_row` meets its contract: each way out is a case of `move_row`. Assumes nothing.
use native.Mathlib.Omega.{arith}
use Rattle.receiver_store.proofs.Exits.{row_in, row_stays, row_there, row_goes}
use Rattle.receiver_store.proofs.packing.move_row.Goals as goal

pub returns-then-out : goal.returns-then-out
returns-then-out c = row_stays _ _ _ _ _ _ _ c.load_link-place.ensures c.load_link-size.ensures c.misplaced-out.ensures c.if-out.true

pub overflow_add-result : goal.overflow_add-result
overflow_add-result c = let o = row_in _ _ _ _ _ c.misplaced-out.ensures c.if-out.false in omega (arith, o.0, o.1)

pub returns-then-place-cursor : goal.returns-then-place-cursor
returns-then-place-cursor c = row_there _ _ _ _ _ _ _ c.load_link-place.ensures c.load_link-size.ensures c.misplaced-out.ensures c.if-out.false c.if-place-cursor.true

pub move_down-requires : goal.move_down-requires
move_down-requires c =
    let o = row_in _ _ _ _ _ c.misplaced-out.ensures c.if-out.false in
    (o.1, o.0)

pub overflow_add-result-2 : goal.overflow_add-result-2
overflow_add-result-2 c = let o = row_in _ _ _ _ _ c.misplaced-out.ensures c.if-out.false in omega (arith, o.0, o.1)

pub returns : goal.returns
returns c = row_goes _ _ _ _ _ _ _ c.load_link-place.ensures c.load_link-size.ensures c.misplaced-out.ensures _ _ c.if-out.false c.if-place-cursor.false c.move_down.ensures c.store_link.ensures
