-- `queue_words::active::load_active` meets its contract: it is what `active_out` does, under the name that laws speak of. Assumes nothing.
use Rattle.queue_words.specs.Active.{active_at}
use Rattle.queue_words.proofs.active.load_active.Goals as goal

-- `queue_words::active::load_active` meets its contract: it is what `active_out` does, under the name that laws speak of. Assumes nothing.
pub returns : goal.returns
unfolding active_at
returns c = c.active_out.ensures
