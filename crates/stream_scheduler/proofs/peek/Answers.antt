-- `stream_scheduler::peek` meets its contract: each return is a case of `peek_words` (proofs/Exits.antt). Assumes nothing.
use Rattle.stream_scheduler.proofs.Exits.{peek_broken, peek_nothing, peek_front}
use Rattle.stream_scheduler.proofs.peek.Goals as goal

-- `stream_scheduler::peek` meets its contract: each return is a case of `peek_words` (proofs/Exits.antt). Assumes nothing.
pub returns-then-s-gt-STREAMS : goal.returns-then-s-gt-STREAMS
returns-then-s-gt-STREAMS c = peek_broken _ _ c.load_scheduler_state-s.ensures c.if-s-gt-STREAMS.true

pub returns-then-n-eq0 : goal.returns-then-n-eq0
returns-then-n-eq0 c = peek_nothing _ _ c.load_scheduler_state-s.ensures c.if-s-gt-STREAMS.false c.if-n-eq0.true

pub returns : goal.returns
returns c = peek_front _ _ c.load_scheduler_state-s.ensures c.if-s-gt-STREAMS.false c.if-n-eq0.false _ c.front_row-at.ensures
