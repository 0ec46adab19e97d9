-- `queue_words::header::store_totals` meets its contract: it is what `totals_in` does, under the name that laws speak of. Assumes nothing.
use Rattle.queue_words.specs.Header.{put_totals}
use Rattle.queue_words.proofs.header.store_totals.Goals as goal

-- `queue_words::header::store_totals` meets its contract: it is what `totals_in` does, under the name that laws speak of. Assumes nothing.
pub returns : goal.returns
unfolding put_totals
returns c = c.totals_in.ensures
