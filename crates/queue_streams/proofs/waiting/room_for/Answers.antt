-- `queue_streams::waiting::room_for` meets its contract: each return is a case of `room_for`. Assumes nothing.
use Rattle.queue_streams.proofs.Waits.{room_known, room_active, room_not, room_is}
use Rattle.queue_streams.proofs.waiting.room_for.Goals as goal

-- `queue_streams::waiting::room_for` meets its contract: each return is a case of `room_for`. Assumes nothing.
pub returns-then-t-gt-STREAMS : goal.returns-then-t-gt-STREAMS
returns-then-t-gt-STREAMS c = room_known _ _ _ c.load_totals-t.ensures c.if-t-gt-STREAMS.true

pub returns-then-s-gt-STREAMS : goal.returns-then-s-gt-STREAMS
returns-then-s-gt-STREAMS c = room_active _ _ _ c.load_totals-t.ensures c.if-t-gt-STREAMS.false _ c.load_scheduler_state-s.ensures c.if-s-gt-STREAMS.true

pub returns-then-sum : goal.returns-then-sum
returns-then-sum c = room_is _ _ _ c.load_totals-t.ensures c.if-t-gt-STREAMS.false _ c.load_scheduler_state-s.ensures c.if-s-gt-STREAMS.false _ c.tally_all-sum.ensures c.if-sum.true

pub returns : goal.returns
returns c = room_not _ _ _ c.load_totals-t.ensures c.if-t-gt-STREAMS.false _ c.load_scheduler_state-s.ensures c.if-s-gt-STREAMS.false _ c.tally_all-sum.ensures c.if-sum.false
