-- `stream_scheduler::set_new` meets its contract: it is the second case of `set_in` (proofs/Exits.antt). Assumes nothing.
use native.Mathlib.Omega.{arith}
use Rattle.stream_scheduler.proofs.Exits.{set_new}
use Rattle.stream_scheduler.proofs.set_new.Goals as goal

-- `stream_scheduler::set_new` meets its contract: it is the second case of `set_in` (proofs/Exits.antt). Assumes nothing.
pub returns : goal.returns
returns c = set_new _ _ _ _ _ _ _ c.load_options-o.ensures _ _ _ _ (omega arith) c.requires c.load_scheduler_state-s.ensures c.schedule_next_chunk-row.ensures c.store_active.ensures c.store_scheduler_state.ensures
