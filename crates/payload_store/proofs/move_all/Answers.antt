-- One turn more: the row that is moved lies in the store (`Moving`), or there is none, or it lies outside.
use Rattle.std.proofs.Common.{refl, arith}
use Rattle.payload_store.proofs.Choice.{moving, going_start, going_on, going_rests, going_stops, going_end}
use Rattle.payload_store.proofs.Groups.{hints_moved}
use Rattle.payload_store.proofs.move_all.Goals as goal

pub loop-init : goal.loop-init
loop-init c = (going_start _ _ c.whole.ensures, c.requires)

pub returns-then-r-ge-MESSAGE_ROWS : goal.returns-then-r-ge-MESSAGE_ROWS
returns-then-r-ge-MESSAGE_ROWS c = going_rests _ _ _ _ _ _ _ c.loop.invariant.0 c.next_row-r.ensures.0 c.if-r-ge-MESSAGE_ROWS.true

pub returns-then-not-inside : goal.returns-then-not-inside
returns-then-not-inside c = going_stops _ _ _ _ _ _ _ _ _ _ _ c.loop.invariant.0 c.next_row-r.ensures.0 c.if-r-ge-MESSAGE_ROWS.false c.load_place-from.ensures c.load_length-n.ensures refl c.lies-inside.ensures c.if-not-inside.true

pub move_down-requires : goal.move_down-requires
move_down-requires c =
    let m = moving _ _ _ _ _ _ _ _ _ _ _ c.loop.invariant.0 c.next_row-r.ensures.0 c.if-r-ge-MESSAGE_ROWS.false c.load_place-from.ensures c.load_length-n.ensures refl c.lies-inside.ensures c.if-not-inside.false in
    (m.in_store, m.down)

pub overflow_add-cursor : goal.overflow_add-cursor
overflow_add-cursor c =
    let m = moving _ _ _ _ _ _ _ _ _ _ _ c.loop.invariant.0 c.next_row-r.ensures.0 c.if-r-ge-MESSAGE_ROWS.false c.load_place-from.ensures c.load_length-n.ensures refl c.lies-inside.ensures c.if-not-inside.false in
    omega (arith, m.in_store, m.down, c.loop.invariant.0.same)

pub loop-preserved : goal.loop-preserved
loop-preserved c =
    let m = moving _ _ _ _ _ _ _ _ _ _ _ c.loop.invariant.0 c.next_row-r.ensures.0 c.if-r-ge-MESSAGE_ROWS.false c.load_place-from.ensures c.load_length-n.ensures refl c.lies-inside.ensures c.if-not-inside.false in (
      going_on _ _ _ _ _ _ _ _ _ _ _ c.loop.invariant.0 c.loop-test.true c.next_row-r.ensures.0 c.if-r-ge-MESSAGE_ROWS.false c.load_place-from.ensures c.load_length-n.ensures m c.move_down.ensures c.store_place.ensures,
      hints_moved _ _ _ _ _ _ c.loop.invariant.0.long c.if-r-ge-MESSAGE_ROWS.false c.next_row-r.ensures.1 c.store_place.ensures,
    )

pub returns : goal.returns
returns c = going_end _ _ _ _ _ _ c.loop.invariant.0 c.loop-test.false
