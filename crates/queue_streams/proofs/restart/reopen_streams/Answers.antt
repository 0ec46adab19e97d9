-- `queue_streams::restart::reopen_streams` meets its contract: each return is a case of `reopen`. Assumes nothing.
use Rattle.queue_streams.proofs.Restarts.{reopen_refused}
use Rattle.queue_streams.proofs.restart.reopen_streams.Goals as goal

pub returns : goal.returns
returns c = reopen_refused _ _ _ c.room_for-room.ensures c.if-room.false
