-- `queue_questions::questions::total_buffered_amount` meets its contract: the total is the loaded one. Assumes nothing.
use mathlib.Core.Path.{ap}
use Rattle.queue_words.specs.declared.header.Totals.{Totals}
use Rattle.queue_questions.specs.Questions.{total_of}
use Rattle.queue_questions.proofs.questions.total_buffered_amount.Goals as goal

-- `queue_questions::questions::total_buffered_amount` meets its contract: the total is the loaded one. Assumes nothing.
pub returns : goal.returns
unfolding total_of
returns c = ap (λ (t : Totals). t.total) c.load_totals-t.ensures
