-- `stream_scheduler::drop_row` meets its contract (proofs/Exits.antt). Assumes nothing.
use Rattle.stream_scheduler.proofs.Exits.{row_dropped}
use Rattle.stream_scheduler.proofs.drop_row.Goals as goal

-- `stream_scheduler::drop_row` meets its contract (proofs/Exits.antt). Assumes nothing.
pub returns : goal.returns
returns c = row_dropped _ _ _ _ _ _ _ _ _ c.load_active-last.ensures c.rest_time-rest.ensures c.store_active.ensures c.store_scheduler_state.ensures
