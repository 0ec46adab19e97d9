-- `queue_words::known::load_known` meets its contract: it is what `known_out` does, under the name that laws speak of. Assumes nothing.
use Rattle.queue_words.specs.Known.{known_at}
use Rattle.queue_words.proofs.known.load_known.Goals as goal

-- `queue_words::known::load_known` meets its contract: it is what `known_out` does, under the name that laws speak of. Assumes nothing.
pub returns : goal.returns
unfolding known_at
returns c = c.known_out.ensures
