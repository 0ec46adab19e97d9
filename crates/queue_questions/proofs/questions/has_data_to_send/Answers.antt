use Rattle.queue_questions.proofs.Exits.{data_waits, data_none, data_broken}
use Rattle.std.proofs.Common.{refl}
use Rattle.queue_questions.proofs.questions.has_data_to_send.Goals as goal

-- `queue_questions::questions::has_data_to_send` meets its contract: each return is a case of `data_of` (proofs/Exits.antt). Assumes nothing.
pub returns-in-At : goal.returns-in-At
returns-in-At c = data_waits _ _ c.in-At.ensures _ refl

pub returns-in-Nothing : goal.returns-in-Nothing
returns-in-Nothing c = data_none _ _ c.in-Nothing.ensures refl

pub returns-in-Broken : goal.returns-in-Broken
returns-in-Broken c = data_broken _ _ c.in-Broken.ensures refl
