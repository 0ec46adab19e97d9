-- `queue_streams::restart::enable_message_interleaving` meets its contract: each return is a case of `set_interleaving_words`. Assumes nothing.
use Rattle.queue_streams.proofs.Restarts.{choice_kept, switch_refused}
use Rattle.queue_streams.proofs.restart.enable_message_interleaving.Goals as goal

-- `queue_streams::restart::enable_message_interleaving` meets its contract: each return is a case of `set_interleaving_words`. Assumes nothing.
pub returns-then-same : goal.returns-then-same
returns-then-same c = choice_kept _ _ _ c.load_totals-t.ensures _ c.same_choice-same.ensures c.if-same.true

pub returns : goal.returns
returns c = switch_refused _ _ _ c.load_totals-t.ensures _ c.same_choice-same.ensures c.if-same.false _ c.room_for-room.ensures c.if-room.false
