-- `receiver_store::read_payload` meets its contract: each way out is a case of `read_payload`. Assumes nothing.
use native.Mathlib.Omega.{arith}
use Rattle.std.proofs.lemmas.Result.{err_from_is_err_and}
use Rattle.receiver_store.proofs.Exits.{read_refused, read_held, read_done, read_fits}
use Rattle.receiver_store.proofs.read_payload.Goals as goal

pub returns-in_err-read_code : goal.returns-in_err-read_code
returns-in_err-read_code c =
    let p = err_from_is_err_and c.from_residual.result c.from_residual.ensures.1 in
    rw p.1 (read_refused _ c.args.store.now c.args.dst.now _ c.args.at c.in_err-read_code.ensures)

pub overflow_add-end : goal.overflow_add-end
overflow_add-end c = let o = read_held _ _ _ _ _ _ _ c.in_ok-read_code.ensures c.load_link-place.ensures c.load_link-size.ensures in omega (arith, o.0)

pub slice_bounds-write_part-end : goal.slice_bounds-write_part-end
slice_bounds-write_part-end c = let o = read_held _ _ _ _ _ _ _ c.in_ok-read_code.ensures c.load_link-place.ensures c.load_link-size.ensures in omega (arith, o.0)

pub write_part-requires : goal.write_part-requires
write_part-requires c = read_fits _ c.args.store.now c.args.dst.now _ c.args.at c.in_ok-read_code.ensures _ _ c.load_link-place.ensures c.load_link-size.ensures

pub returns : goal.returns
returns c = read_done _ c.args.store.now c.args.dst.now _ c.args.at c.in_ok-read_code.ensures _ _ c.load_link-place.ensures c.load_link-size.ensures _ c.write_part.ensures
