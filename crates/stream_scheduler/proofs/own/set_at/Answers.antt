-- `stream_scheduler::own::set_at` meets its contract: each way out is a case of `set_bytes_remaining_words` (proofs/Exits.antt). Assumes nothing.
use Rattle.stream_scheduler.proofs.Exits.{rows_fit, set_free, set_none, set_some, set_behind}
use Rattle.stream_scheduler.proofs.own.set_at.Goals as goal

-- `stream_scheduler::own::set_at` meets its contract: each way out is a case of `set_bytes_remaining_words` (proofs/Exits.antt). Assumes nothing.
pub take_out-requires : goal.take_out-requires
take_out-requires c = rows_fit _ _ _ _ c.requires.2 _ _ c.requires.0 c.requires.1

pub returns-then-bytes-eq0 : goal.returns-then-bytes-eq0
returns-then-bytes-eq0 c = set_none _ _ _ _ c.requires.2 _ _ c.requires.0 c.requires.1 _ c.if-bytes-eq0.true c.take_out.ensures

pub set_old-requires : goal.set_old-requires
set_old-requires c = (c.if-at-n.true, rows_fit _ _ _ _ c.requires.2 _ _ c.requires.0 c.requires.1)

pub returns-then-at-n : goal.returns-then-at-n
returns-then-at-n c = set_some _ _ _ _ c.requires.2 _ _ c.requires.0 c.requires.1 _ _ c.if-bytes-eq0.false c.from-parameters.ensures c.set_old.ensures

pub set_new-requires : goal.set_new-requires
set_new-requires c = set_free _ _ _ _ c.requires.2 _ _ c.requires.0 c.requires.1 c.if-bytes-eq0.false c.if-at-n.false

pub returns : goal.returns
returns c = set_behind _ _ _ _ c.requires.2 _ _ c.requires.0 c.requires.1 _ _ c.if-bytes-eq0.false c.from-parameters.ensures c.if-at-n.false c.set_new.ensures
