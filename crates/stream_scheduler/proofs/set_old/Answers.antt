-- `stream_scheduler::set_old` meets its contract: it is the first case of `set_in` (proofs/Exits.antt). Assumes nothing.
use Rattle.stream_scheduler.proofs.Exits.{set_old}
use Rattle.stream_scheduler.proofs.set_old.Goals as goal

-- `stream_scheduler::set_old` meets its contract: it is the first case of `set_in` (proofs/Exits.antt). Assumes nothing.
pub returns : goal.returns
returns c = set_old _ _ _ _ _ _ _ c.load_options-o.ensures _ _ _ c.requires.0 c.load_active-a.ensures c.schedule_next_chunk-row.ensures c.store_active.ensures
