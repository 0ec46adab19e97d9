-- `receiver_store::put_payload` meets its contract: each way out is a case of `put_payload`. Assumes nothing.
use Rattle.std.proofs.lemmas.Result.{err_from_is_err_and}
use Rattle.receiver_store.proofs.Exits.{put_room, put_refused, put_at_end, put_packed, room_at_end, room_packed, sub_end}
use Rattle.receiver_store.proofs.put_payload.Goals as goal

pub returns-in_err-room_code : goal.returns-in_err-room_code
returns-in_err-room_code c =
    let p = err_from_is_err_and c.from_residual.result c.from_residual.ensures.1 in
    rw (p.1, p.2) (put_refused _ _ _ _ _ c.in_err-room_code.ensures)

pub overflow_sub-len : goal.overflow_sub-len
overflow_sub-len c = sub_end _ _ _ _ c.in_ok-room_code.ensures c.load_header-end.ensures

pub place_payload-requires : goal.place_payload-requires
place_payload-requires c = room_at_end _ _ _ _ _ c.requires c.in_ok-room_code.ensures c.load_header-end.ensures c.if-n-len.true

pub returns-then-n-len : goal.returns-then-n-len
returns-then-n-len c = put_at_end _ _ _ _ c.in_ok-room_code.ensures _ _ c.load_header-end.ensures c.if-n-len.true c.place_payload.ensures

pub move_together-requires : goal.move_together-requires
move_together-requires c = (put_room _ _ _ c.in_ok-room_code.ensures).0

pub place_payload-requires-2 : goal.place_payload-requires-2
place_payload-requires-2 c = room_packed _ c.args.store.now c.args.payload.now _ _ _ _ c.requires c.whole.ensures c.in_ok-room_code.ensures c.load_header-end.ensures c.if-n-len.false c.move_together.ensures

pub returns : goal.returns
returns c = put_packed _ _ _ _ c.in_ok-room_code.ensures _ _ _ _ c.load_header-end.ensures c.if-n-len.false c.move_together.ensures c.place_payload-2.ensures
