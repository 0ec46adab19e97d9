-- `restoring::waits::wait_all` meets its contract: the first i streams are done. Assumes nothing.
use mathlib.Core.Path.{◌≡◌}
use Rattle.restoring.specs.Messages.{waits_all}
use Rattle.restoring.proofs.waits.wait_all.Given as goal

abbrev pub invariant-loop-i : goal.invariant-loop-i
invariant-loop-i l = l.queue ≡ waits_all l.interleaving l.initial.queue l.i
