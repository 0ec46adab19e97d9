-- `queue_sending::progress::store_progress` meets its contract. Assumes nothing.
use mathlib.Core.Path.{refl}
use Rattle.queue_sending.specs.Progress.{put_progress}
use Rattle.queue_sending.proofs.progress.store_progress.Goals as goal

pub returns : goal.returns
unfolding put_progress
returns c = refl
