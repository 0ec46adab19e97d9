-- `queue_restarts::whole::sum_all` meets its contract: the total of the first i streams. Assumes nothing.
use mathlib.Core.Path.{◌≡◌}
use Rattle.queue_restarts.specs.Reset.{sum_all}
use Rattle.queue_restarts.proofs.whole.sum_all.Given as goal

-- `queue_restarts::whole::sum_all` meets its contract: the total of the first i streams. Assumes nothing.
abbrev pub invariant-loop-i : goal.invariant-loop-i
invariant-loop-i l = l.t ≡ sum_all l.queue l.total l.i
