-- `queue_words::known::store_known` meets its contract: it is what `known_in` does, under the name that laws speak of. Assumes nothing.
use Rattle.queue_words.specs.Known.{put_known}
use Rattle.queue_words.proofs.known.store_known.Goals as goal

-- `queue_words::known::store_known` meets its contract: it is what `known_in` does, under the name that laws speak of. Assumes nothing.
pub returns : goal.returns
unfolding put_known
returns c = c.known_in.ensures
