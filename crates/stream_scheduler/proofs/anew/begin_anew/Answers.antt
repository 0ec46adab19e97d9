-- `stream_scheduler::anew::begin_anew` meets its contract (proofs/Ends.antt). Assumes nothing.
use Rattle.stream_scheduler.proofs.Ends.{begun_anew_lem}
use Rattle.stream_scheduler.proofs.anew.begin_anew.Goals as goal

-- `stream_scheduler::anew::begin_anew` meets its contract (proofs/Ends.antt). Assumes nothing.
pub returns : goal.returns
returns c = begun_anew_lem _ _ _ _ _ _ _ _ _ _ _ _ c.load_options-o.ensures c.rest_time-start.ensures c.schedule_next_chunk-row.ensures c.store_active.ensures c.store_scheduler_state.ensures
