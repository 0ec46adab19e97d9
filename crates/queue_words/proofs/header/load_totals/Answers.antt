-- `queue_words::header::load_totals` meets its contract: it is what `totals_out` does, under the name that laws speak of. Assumes nothing.
use Rattle.queue_words.specs.Header.{totals_at}
use Rattle.queue_words.proofs.header.load_totals.Goals as goal

-- `queue_words::header::load_totals` meets its contract: it is what `totals_out` does, under the name that laws speak of. Assumes nothing.
pub returns : goal.returns
unfolding totals_at
returns c = c.totals_out.ensures
