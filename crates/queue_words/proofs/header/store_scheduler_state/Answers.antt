-- `queue_words::header::store_scheduler_state` meets its contract: it is what `scheduler_in` does, under the name that laws speak of. Assumes nothing.
use Rattle.queue_words.specs.Header.{put_scheduler}
use Rattle.queue_words.proofs.header.store_scheduler_state.Goals as goal

-- `queue_words::header::store_scheduler_state` meets its contract: it is what `scheduler_in` does, under the name that laws speak of. Assumes nothing.
pub returns : goal.returns
unfolding put_scheduler
returns c = c.scheduler_in.ensures
