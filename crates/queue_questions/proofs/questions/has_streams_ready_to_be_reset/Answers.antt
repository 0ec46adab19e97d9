-- `queue_questions::questions::has_streams_ready_to_be_reset` meets its contract: each return is a case of `ready_of` (proofs/Exits.antt). Assumes nothing.
use mathlib.Core.Path.{◌∙◌}
use Rattle.queue_questions.proofs.Exits.{ready_too_many, ready_told}
use Rattle.queue_questions.proofs.questions.has_streams_ready_to_be_reset.Goals as goal

-- `queue_questions::questions::has_streams_ready_to_be_reset` meets its contract: each return is a case of `ready_of` (proofs/Exits.antt). Assumes nothing.
pub returns-then-t-gt-STREAMS : goal.returns-then-t-gt-STREAMS
returns-then-t-gt-STREAMS c = ready_too_many _ _ c.load_totals-t.ensures c.if-t-gt-STREAMS.true

pub returns : goal.returns
returns c = c.ready_among.ensures ∙ ready_told _ _ c.load_totals-t.ensures c.if-t-gt-STREAMS.false
