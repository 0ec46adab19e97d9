-- `queue_words::header::store_options` meets its contract: it is what `options_in` does, under the name that laws speak of. Assumes nothing.
use Rattle.queue_words.specs.Header.{put_options}
use Rattle.queue_words.proofs.header.store_options.Goals as goal

-- `queue_words::header::store_options` meets its contract: it is what `options_in` does, under the name that laws speak of. Assumes nothing.
pub returns : goal.returns
unfolding put_options
returns c = c.options_in.ensures
