-- `stream_scheduler::waits` meets its contract: each return is a case of `waits_in` (proofs/Exits.antt). Assumes nothing.
use Rattle.stream_scheduler.proofs.Exits.{waits_broken, waits_sought}
use Rattle.stream_scheduler.proofs.waits.Goals as goal

-- `stream_scheduler::waits` meets its contract: each return is a case of `waits_in` (proofs/Exits.antt). Assumes nothing.
pub returns-then-s-gt-STREAMS : goal.returns-then-s-gt-STREAMS
returns-then-s-gt-STREAMS c = waits_broken _ _ _ c.load_scheduler_state-s.ensures c.if-s-gt-STREAMS.true

pub returns : goal.returns
returns c = waits_sought _ _ _ c.load_scheduler_state-s.ensures c.if-s-gt-STREAMS.false _ c.seek-at.ensures
