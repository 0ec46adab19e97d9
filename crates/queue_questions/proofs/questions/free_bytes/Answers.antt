-- `queue_questions::questions::free_bytes` meets its contract: both returns are `room_of` (proofs/Exits.antt). Assumes nothing.
use Rattle.queue_questions.proofs.Exits.{none_free, some_free}
use Rattle.queue_questions.proofs.questions.free_bytes.Goals as goal

-- `queue_questions::questions::free_bytes` meets its contract: both returns are `room_of` (proofs/Exits.antt). Assumes nothing.
pub returns-then-t-o : goal.returns-then-t-o
returns-then-t-o c = none_free _ _ c.load_options-o.ensures _ c.load_totals-t.ensures c.if-t-o.true

pub returns : goal.returns
returns c = some_free _ _ c.load_options-o.ensures _ c.load_totals-t.ensures
