-- `queue_streams::waiting::reschedule` meets its contract (proofs/Waits.antt). Assumes nothing.
use Rattle.queue_streams.proofs.Waits.{waits_done, waits_again}
use Rattle.queue_streams.proofs.waiting.reschedule.Goals as goal

-- `queue_streams::waiting::reschedule` meets its contract (proofs/Waits.antt). Assumes nothing.
pub set_own-requires : goal.set_own-requires
set_own-requires c =
    waits_done _ _ _ _ _ _ _ c.requires c.head_size-bytes.ensures c.parameters_for-p.ensures

pub returns : goal.returns
returns c = waits_again _ _ _ _ _ _ _ _ _ c.head_size-bytes.ensures c.parameters_for-p.ensures c.set_own.ensures
