use mathlib.Core.Path.{refl}
use Rattle.queue_restarts.specs.Marking.{put_resetting}
use Rattle.std.proofs.Common.{refl}
use Rattle.queue_restarts.proofs.marking.store_resetting.Goals as goal

-- `queue_restarts::marking::store_resetting` meets its contract. Assumes nothing.
pub returns : goal.returns
unfolding put_resetting
returns c = refl
