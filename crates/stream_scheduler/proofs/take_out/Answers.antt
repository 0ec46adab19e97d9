-- `stream_scheduler::take_out` meets its contract: each way out is a case of `taken_out` (proofs/Exits.antt). Assumes nothing.
use Rattle.stream_scheduler.proofs.Exits.{taken_row, taken_none}
use Rattle.stream_scheduler.proofs.take_out.Goals as goal

-- `stream_scheduler::take_out` meets its contract: each way out is a case of `taken_out` (proofs/Exits.antt). Assumes nothing.
pub returns-then-at-n : goal.returns-then-at-n
returns-then-at-n c = taken_row _ _ _ _ _ c.load_scheduler_state-s.ensures _ c.forget-current.ensures _ c.if-at-n.true c.drop_row.ensures

pub returns : goal.returns
returns c =
    taken_none _ _ _ _ _ c.load_scheduler_state-s.ensures _ c.forget-current.ensures _ _ c.if-at-n.false c.rest_time-rest.ensures c.store_scheduler_state.ensures
