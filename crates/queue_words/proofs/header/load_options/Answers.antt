-- `queue_words::header::load_options` meets its contract: it is what `options_out` does, under the name that laws speak of. Assumes nothing.
use Rattle.queue_words.specs.Header.{options_at}
use Rattle.queue_words.proofs.header.load_options.Goals as goal

-- `queue_words::header::load_options` meets its contract: it is what `options_out` does, under the name that laws speak of. Assumes nothing.
pub returns : goal.returns
unfolding options_at
returns c = c.options_out.ensures
