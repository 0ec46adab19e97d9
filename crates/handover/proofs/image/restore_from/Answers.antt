-- `handover::image::restore_from` meets its contract: each return is what its definition says, by what the calls ensure and the tests taken. Assumes nothing.
use Rattle.handover.specs.Restore.{restored_from}
use Rattle.handover.proofs.image.restore_from.Goals as goal

pub returns : goal.returns
unfolding restored_from
returns c =
    rw (
      ← c.empty_queue.ensures,
      ← c.restore_streams.ensures,
      ← c.restore_messages.ensures,
      ← c.let_wait.ensures,
    )
