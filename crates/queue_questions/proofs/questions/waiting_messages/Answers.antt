-- `queue_questions::questions::waiting_messages` meets its contract: the number is the loaded one. Assumes nothing.
use mathlib.Core.Path.{ap}
use Rattle.queue_words.specs.declared.header.Totals.{Totals}
use Rattle.queue_questions.specs.Questions.{room_of}
use Rattle.queue_questions.proofs.questions.waiting_messages.Goals as goal

-- `queue_questions::questions::waiting_messages` meets its contract: the number is the loaded one. Assumes nothing.
pub returns : goal.returns
unfolding room_of
returns c = ap (λ (t : Totals). t.waiting) c.load_totals-t.ensures
