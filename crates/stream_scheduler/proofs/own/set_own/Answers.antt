-- `stream_scheduler::own::set_own` meets its contract: the row is sought, and set (proofs/Exits.antt). Assumes nothing.
use Rattle.active_table.proofs.Refresh.{few_rows}
use Rattle.stream_scheduler.proofs.Exits.{set_few}
use Rattle.stream_scheduler.proofs.own.set_own.Goals as goal

-- `stream_scheduler::own::set_own` meets its contract: the row is sought, and set (proofs/Exits.antt). Assumes nothing.
pub seek-at-requires : goal.seek-at-requires
seek-at-requires c = few_rows _ _ c.load_scheduler_state-s.ensures (set_few _ _ _ _ c.requires)
