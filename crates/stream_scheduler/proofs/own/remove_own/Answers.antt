-- `stream_scheduler::own::remove_own` meets its contract: what it leaves is a case of `remove_stream_words` (proofs/Exits.antt). Assumes nothing.
use Rattle.active_table.proofs.Refresh.{few_rows}
use Rattle.stream_scheduler.proofs.Exits.{remove_done}
use Rattle.stream_scheduler.proofs.own.remove_own.Goals as goal

pub returns : goal.returns
returns c = remove_done _ _ _ c.load_scheduler_state-s.ensures _ _ (few_rows _ _ c.load_scheduler_state-s.ensures c.requires) c.seek-at.ensures c.take_out.ensures
