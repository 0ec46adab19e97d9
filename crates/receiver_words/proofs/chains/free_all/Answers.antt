-- `receiver_words::chains::free_all` meets its contract: after i turns the first i rows are free. Assumes nothing.
use mathlib.Core.Path.{refl}
use Rattle.receiver_words.proofs.Steps.{free_next}
use Rattle.receiver_words.specs.Chains.{free_to}
use Rattle.receiver_words.proofs.chains.free_all.Goals as goal

pub loop-i-init : goal.loop-i-init
unfolding free_to
loop-i-init c = refl

pub loop-i-preserved : goal.loop-i-preserved
loop-i-preserved c = free_next _ _ _ _ c.loop-i.invariant c.store_link.ensures
