-- `queue_words::streams::store_chain` meets its contract. Assumes nothing.
use mathlib.Core.Path.{refl}
use Rattle.queue_words.specs.Streams.{put_chain}
use Rattle.queue_words.proofs.streams.store_chain.Goals as goal

-- `queue_words::streams::store_chain` meets its contract. Assumes nothing.
pub returns : goal.returns
unfolding put_chain
returns c = refl
