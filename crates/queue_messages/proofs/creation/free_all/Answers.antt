-- `queue_messages::creation::free_all` meets its contract: the first i places are free. Assumes nothing.
use Rattle.queue_messages.proofs.Lemmas.{freed_none, freed_next}
use Rattle.queue_messages.proofs.creation.free_all.Goals as goal

pub loop-i-init : goal.loop-i-init
loop-i-init c = freed_none _

pub loop-i-preserved : goal.loop-i-preserved
loop-i-preserved c = freed_next _ _ _ _ _ _ c.loop-i.invariant c.store_length.ensures c.store_place.ensures c.store_next.ensures
