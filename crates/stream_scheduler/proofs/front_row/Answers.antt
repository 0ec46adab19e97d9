-- `stream_scheduler::front_row` meets its contract: each return is a case of `peek_among` (proofs/Exits.antt). Assumes nothing.
use Rattle.stream_scheduler.proofs.Exits.{front_current, front_least}
use Rattle.stream_scheduler.proofs.front_row.Goals as goal

-- `stream_scheduler::front_row` meets its contract: each return is a case of `peek_among` (proofs/Exits.antt). Assumes nothing.
pub returns-then-i-n : goal.returns-then-i-n
returns-then-i-n c = front_current _ _ _ _ c.current_row-i.ensures c.if-i-n.true

pub returns : goal.returns
returns c = front_least _ _ _ _ c.current_row-i.ensures _ c.if-i-n.false c.least_known-best.ensures
