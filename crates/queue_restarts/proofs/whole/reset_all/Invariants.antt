-- `queue_restarts::whole::reset_all` meets its contract: the first i streams are done. Assumes nothing.
use mathlib.Core.Path.{◌≡◌}
use Rattle.queue_restarts.specs.Reset.{reset_all}
use Rattle.queue_restarts.proofs.whole.reset_all.Given as goal

-- `queue_restarts::whole::reset_all` meets its contract: the first i streams are done. Assumes nothing.
abbrev pub invariant-loop-i : goal.invariant-loop-i
invariant-loop-i l = l.queue ≡ reset_all l.strict l.interleaving l.initial.queue l.i
