-- `stream_scheduler::own::peek_own` meets its contract: each return is a case of `peek_words` (proofs/Exits.antt). Assumes nothing.
use Rattle.active_table.proofs.Refresh.{few_rows}
use Rattle.stream_scheduler.proofs.Exits.{peek_nothing, peek_front}
use Rattle.stream_scheduler.proofs.own.peek_own.Goals as goal

-- `stream_scheduler::own::peek_own` meets its contract: each return is a case of `peek_words` (proofs/Exits.antt). Assumes nothing.
pub returns-then-n-eq0 : goal.returns-then-n-eq0
returns-then-n-eq0 c = peek_nothing _ _ c.load_scheduler_state-s.ensures (few_rows _ _ c.load_scheduler_state-s.ensures c.requires) c.if-n-eq0.true

pub returns : goal.returns
returns c = peek_front _ _ c.load_scheduler_state-s.ensures (few_rows _ _ c.load_scheduler_state-s.ensures c.requires) c.if-n-eq0.false _ c.front_row-at.ensures
