-- `queue_questions::questions::get_handover_readiness` meets its contract: each return is a case of `readiness_of` (proofs/Exits.antt). Assumes nothing.
use Rattle.queue_questions.proofs.Exits.{readiness_on, readiness_data, readiness_none}
use Rattle.queue_questions.proofs.questions.get_handover_readiness.Goals as goal

-- `queue_questions::questions::get_handover_readiness` meets its contract: each return is a case of `readiness_of` (proofs/Exits.antt). Assumes nothing.
pub returns-then-o : goal.returns-then-o
returns-then-o c = readiness_on _ _ c.load_options-o.ensures c.if-o.true

pub returns-then-t-gt0 : goal.returns-then-t-gt0
returns-then-t-gt0 c = readiness_data _ _ c.load_options-o.ensures c.if-o.false _ c.load_totals-t.ensures c.if-t-gt0.true

pub returns : goal.returns
returns c = readiness_none _ _ c.load_options-o.ensures c.if-o.false _ c.load_totals-t.ensures c.if-t-gt0.false
