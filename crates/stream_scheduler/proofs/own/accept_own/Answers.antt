-- `stream_scheduler::own::accept_own` meets its contract: each way out is a case of `accept_at` (proofs/Exits.antt). Assumes nothing.
use Rattle.active_table.proofs.Refresh.{few_rows}
use Rattle.stream_scheduler.proofs.Exits.{has_row, dropped_few, put_few, accept_last, accept_part}
use Rattle.stream_scheduler.proofs.own.accept_own.Goals as goal

pub refresh-requires : goal.refresh-requires
refresh-requires c =
    dropped_few _ _ _ _ _ _ c.drop_row.ensures (few_rows _ _ c.load_scheduler_state-s.ensures
    c.requires.0)

pub returns-then-a-bytes : goal.returns-then-a-bytes
returns-then-a-bytes c =
    accept_last _ _ _ _ c.load_scheduler_state-s.ensures (few_rows _ _ c.load_scheduler_state-s.ensures c.requires.0) (has_row _ _ c.load_scheduler_state-s.ensures _ c.requires.1) _ c.load_active-a.ensures _ c.calculate_vt-time.ensures _ _ c.if-a-bytes.true c.drop_row.ensures c.refresh.ensures

pub refresh-requires-2 : goal.refresh-requires-2
refresh-requires-2 c =
    put_few _ _ _ c.store_scheduler_state.ensures
    (few_rows _ _ c.load_scheduler_state-s.ensures
    c.requires.0)

pub returns : goal.returns
returns c =
    accept_part _ _ _ _ c.load_scheduler_state-s.ensures (few_rows _ _ c.load_scheduler_state-s.ensures c.requires.0) (has_row _ _ c.load_scheduler_state-s.ensures _ c.requires.1) _ c.load_active-a.ensures _ c.calculate_vt-time.ensures _ _ _ _ _ _ c.if-a-bytes.false
    c.load_options-o.ensures c.schedule_next_chunk-row.ensures c.store_active.ensures c.remember-current.ensures c.store_scheduler_state.ensures c.refresh-2.ensures
