-- `queue_sending::next_fragment::produce` meets its contract: each return is what its definition says, by what the calls ensure and the tests taken.
-- Assumes nothing.
use native.Mathlib.Omega.{arith}
use Rattle.std.proofs.lemmas.Result.{err_from_is_err_and}
use Rattle.types.proofs.Refusals.{refusal_above}
use Rattle.queue_sending.specs.Produce.{produce_next}
use Rattle.queue_sending.proofs.Passes.{code_places}
use Rattle.queue_sending.proofs.next_fragment.produce.Goals as goal

pub returns-in_err-produce_code : goal.returns-in_err-produce_code
unfolding produce_next
returns-in_err-produce_code c =
    let p = err_from_is_err_and c.from_residual.result c.from_residual.ensures.1 in
    rw (p.1, p.2, ← c.in_err-produce_code.ensures, refusal_above _)

pub produce_after-requires : goal.produce_after-requires
produce_after-requires c = code_places _ _ _ _ _ _ _ c.in_ok-produce_code.ensures (omega arith)

pub returns : goal.returns
unfolding produce_next
returns c =
    rw (
      ← c.in_ok-produce_code.ensures,
      ← c.produce_after.ensures,
    )
