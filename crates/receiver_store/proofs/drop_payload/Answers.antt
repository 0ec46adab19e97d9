-- `receiver_store::drop_payload` meets its contract: each way out is a case of `drop_payload`. Assumes nothing.
use Rattle.std.proofs.lemmas.Result.{err_from_is_err_and}
use Rattle.receiver_store.proofs.Exits.{drop_refused, drop_held, drop_done}
use Rattle.receiver_store.proofs.drop_payload.Goals as goal

pub returns-in_err-drop_code : goal.returns-in_err-drop_code
returns-in_err-drop_code c =
    let p = err_from_is_err_and c.from_residual.result c.from_residual.ensures.1 in
    rw p.1 (drop_refused _ _ c.in_err-drop_code.ensures)

pub overflow_sub-used : goal.overflow_sub-used
overflow_sub-used c = drop_held _ _ c.in_ok-drop_code.ensures _ _ c.load_link-size.ensures c.load_header-used.ensures

pub returns : goal.returns
returns c = drop_done _ _ c.in_ok-drop_code.ensures _ _ _ _ _ c.load_link-size.ensures c.load_header-used.ensures c.held_end-end.ensures c.store_header.ensures c.store_header-2.ensures
