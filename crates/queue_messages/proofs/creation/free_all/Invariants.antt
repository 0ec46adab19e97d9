-- `queue_messages::creation::free_all` meets its contract: the first i places are free. Assumes nothing.
use mathlib.Core.Path.{◌≡◌}
use Rattle.queue_messages.specs.Create.{freed}
use Rattle.queue_messages.proofs.creation.free_all.Given as goal

-- `queue_messages::creation::free_all` meets its contract: the first i places are free. Assumes nothing.
abbrev pub invariant-loop-i : goal.invariant-loop-i
invariant-loop-i l = l.queue ≡ freed l.initial.queue l.i
