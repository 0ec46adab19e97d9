-- `queue_questions::questions::is_empty` meets its contract: the total is the loaded one. Assumes nothing.
use mathlib.Core.Path.{ap}
use lib.Dec.{eqb}
use Rattle.queue_words.specs.declared.header.Totals.{Totals}
use Rattle.queue_questions.specs.Questions.{empty_of}
use Rattle.queue_questions.proofs.questions.is_empty.Goals as goal

-- `queue_questions::questions::is_empty` meets its contract: the total is the loaded one. Assumes nothing.
pub returns : goal.returns
unfolding empty_of
returns c = ap (λ (t : Totals). eqb t.total 0) c.load_totals-t.ensures
