-- `queue_sending::fragment::hand_out` meets its contract: it is its test, and what follows it (proofs/Nexts.antt). Assumes nothing.
use native.Mathlib.Omega.{arith}
use Rattle.std.proofs.lemmas.Result.{err_from_is_err_and}
use Rattle.queue_sending.proofs.Nexts.{hand_refused}
use Rattle.queue_sending.proofs.fragment.hand_out.Goals as goal

pub returns-in_err-chosen_code : goal.returns-in_err-chosen_code
returns-in_err-chosen_code c =
    let p = err_from_is_err_and c.from_residual.result c.from_residual.ensures.1 in
    rw (p.1, p.2) (hand_refused _ _ _ _ _ _ _ _ _ _ c.in_err-chosen_code.ensures (omega arith))
