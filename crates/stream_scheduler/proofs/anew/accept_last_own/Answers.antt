-- `stream_scheduler::anew::accept_last_own` meets its contract: each way out is a case of `accept_last_words` (proofs/Ends.antt). Assumes nothing.
use Rattle.stream_scheduler.proofs.Ends.{begun_few, last_none, last_anew}
use Rattle.active_table.proofs.Refresh.{few_rows}
use Rattle.stream_scheduler.proofs.Exits.{has_row, dropped_few}
use Rattle.stream_scheduler.proofs.anew.accept_last_own.Goals as goal

pub refresh-requires : goal.refresh-requires
refresh-requires c =
    dropped_few _ _ _ _ _ _ c.drop_row.ensures (few_rows _ _ c.load_scheduler_state-s.ensures
    c.requires.0)

pub returns-then-bytes-eq0 : goal.returns-then-bytes-eq0
returns-then-bytes-eq0 c =
    last_none _ _ _ _ _ _ _ c.load_scheduler_state-s.ensures (few_rows _ _ c.load_scheduler_state-s.ensures c.requires.0) (has_row _ _ c.load_scheduler_state-s.ensures _ c.requires.1) _ c.load_active-a.ensures _ c.calculate_vt-time.ensures _ _ c.if-bytes-eq0.true c.drop_row.ensures c.refresh.ensures

pub refresh-requires-2 : goal.refresh-requires-2
refresh-requires-2 c =
    begun_few _ _ _ _ _ _ _ _ c.begin_anew.ensures (few_rows _ _ c.load_scheduler_state-s.ensures
    c.requires.0)

pub returns : goal.returns
returns c =
    last_anew _ _ _ _ _ _ _ c.load_scheduler_state-s.ensures (few_rows _ _ c.load_scheduler_state-s.ensures c.requires.0) (has_row _ _ c.load_scheduler_state-s.ensures _ c.requires.1) _ c.load_active-a.ensures _ c.calculate_vt-time.ensures _ _ _ c.if-bytes-eq0.false c.from-parameters.ensures c.begin_anew.ensures c.refresh-2.ensures
