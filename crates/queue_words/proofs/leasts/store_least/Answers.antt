-- `queue_words::leasts::store_least` meets its contract. Assumes nothing.
use mathlib.Core.Path.{refl}
use Rattle.queue_words.specs.Leasts.{put_least}
use Rattle.queue_words.proofs.leasts.store_least.Goals as goal

-- `queue_words::leasts::store_least` meets its contract. Assumes nothing.
pub returns : goal.returns
unfolding put_least
returns c = refl
