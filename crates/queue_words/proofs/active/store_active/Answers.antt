-- `queue_words::active::store_active` meets its contract: it is what `active_in` does, and the row's group is stale. Assumes nothing.
use Rattle.queue_words.proofs.Laws.{active_stored}
use Rattle.queue_words.proofs.active.store_active.Goals as goal

-- `queue_words::active::store_active` meets its contract: it is what `active_in` does, and the row's group is stale. Assumes nothing.
pub returns : goal.returns
returns c = active_stored _ _ _ _ _ c.requires c.active_in.ensures c.store_least.ensures
