use Rattle.std.proofs.lemmas.Result.{err_from_is_err_and}
use Rattle.types.proofs.Refusals.{refusal_above}
use Rattle.queue_messages.specs.Add.{message_code}
use Rattle.queue_messages.proofs.adding.message_code.Goals as goal

-- `queue_messages::adding::message_code` meets its contract: each return is what its definition says, by what the calls ensure and the tests taken. Assumes
-- nothing.
pub returns-in_err-full_code : goal.returns-in_err-full_code
unfolding message_code
returns-in_err-full_code c =
    let p = err_from_is_err_and c.from_residual.result c.from_residual.ensures.1 in
    rw (p.1, p.2, ← c.in_err-full_code.ensures, refusal_above _)

pub returns-in_err-broken_code : goal.returns-in_err-broken_code
unfolding message_code
returns-in_err-broken_code c =
    let p = err_from_is_err_and c.from_residual-in_err-broken_code.result c.from_residual-in_err-broken_code.ensures.1 in
    rw (p.1, p.2, ← c.in_ok-full_code.ensures, ← c.in_err-broken_code.ensures)

pub returns : goal.returns
unfolding message_code
returns c = rw (← c.in_ok-full_code.ensures, ← c.in_ok-broken_code.ensures)
