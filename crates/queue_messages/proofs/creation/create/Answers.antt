use Rattle.std.proofs.lemmas.Result.{err_from_is_err_and}
use Rattle.types.proofs.Refusals.{refusal_above}
use Rattle.queue_messages.specs.Create.{create}
use Rattle.queue_messages.proofs.creation.create.Goals as goal

-- `queue_messages::creation::create` meets its contract: each return is what its definition says, by what the calls ensure and the tests taken. Assumes
-- nothing.
pub returns-in_err-create_code : goal.returns-in_err-create_code
unfolding create
returns-in_err-create_code c =
    let p = err_from_is_err_and c.from_residual.result c.from_residual.ensures.1 in
    rw (p.1, p.2, ← c.in_err-create_code.ensures, refusal_above _)

pub returns : goal.returns
unfolding create
returns c =
    rw (
      ← c.in_ok-create_code.ensures,
      ← c.is_strict-strict.ensures,
      ← c.write_new.ensures,
    )
