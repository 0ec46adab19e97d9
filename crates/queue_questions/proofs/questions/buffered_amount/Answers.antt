-- `queue_questions::questions::buffered_amount` meets its contract: each return is a case of `amount_of_words` (proofs/Exits.antt). Assumes nothing.
use Rattle.queue_questions.proofs.Exits.{amount_told, amount_broken}
use Rattle.std.proofs.Common.{refl}
use Rattle.std.proofs.lemmas.Result.{err_from_is_err_and}
use Rattle.queue_questions.proofs.questions.buffered_amount.Goals as goal

pub returns-in_err-s : goal.returns-in_err-s
returns-in_err-s c =
    let p = err_from_is_err_and c.from_residual.result c.from_residual.ensures.1 in
    rw (p.1, p.2) (amount_broken _ _ _ c.in_err-s.ensures refl)

pub returns : goal.returns
returns c = amount_told _ _ _ c.in_ok-s.ensures _ refl
