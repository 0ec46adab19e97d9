-- `payload_store::put_payload` meets its contract: it is its test, and what follows it. Assumes nothing.
use native.Mathlib.Omega.{arith}
use Rattle.std.proofs.lemmas.Result.{err_from_is_err_and}
use Rattle.payload_store.proofs.Tests.{out_refused, room_may, room_above}
use Rattle.payload_store.proofs.put_payload.Goals as goal

pub put_own-requires : goal.put_own-requires
put_own-requires c = room_may _ c.in_ok-put_code.ensures

pub returns-in_err-put_code : goal.returns-in_err-put_code
returns-in_err-put_code c =
    let p = err_from_is_err_and c.from_residual.result c.from_residual.ensures.1 in
    rw (p.1, p.2) (out_refused _ _ _ _ _ c.in_err-put_code.ensures (λ z. omega (arith, z, room_above c.in_err-put_code.field-0.0)) (λ z. omega (arith, z, room_above c.in_err-put_code.field-0.0)))
