-- `queue_words::header::load_scheduler_state` meets its contract: it is what `scheduler_out` does, under the name that laws speak of. Assumes nothing.
use Rattle.queue_words.specs.Header.{scheduler_at}
use Rattle.queue_words.proofs.header.load_scheduler_state.Goals as goal

-- `queue_words::header::load_scheduler_state` meets its contract: it is what `scheduler_out` does, under the name that laws speak of. Assumes nothing.
pub returns : goal.returns
unfolding scheduler_at
returns c = c.scheduler_out.ensures
