-- `queue_questions::questions::get_priority` meets its contract: each return is a case of `priority_of_words` (proofs/Exits.antt). Assumes nothing.
use Rattle.queue_questions.proofs.Exits.{priority_told, priority_broken}
use Rattle.std.proofs.Common.{refl}
use Rattle.std.proofs.lemmas.Result.{err_from_is_err_and}
use Rattle.queue_questions.proofs.questions.get_priority.Goals as goal

pub returns-in_err-s : goal.returns-in_err-s
returns-in_err-s c =
    let p = err_from_is_err_and c.from_residual.result c.from_residual.ensures.1 in
    rw (p.1, p.2) (priority_broken _ _ _ c.in_err-s.ensures refl)

pub returns : goal.returns
returns c = priority_told _ _ _ c.in_ok-s.ensures _ refl
