-- `queue_streams::restart::switch_all` meets its contract: the first i streams are done. Assumes nothing.
use mathlib.Core.Path.{◌≡◌}
use Rattle.queue_streams.specs.Restart.{switched_all}
use Rattle.queue_streams.proofs.restart.switch_all.Given as goal

-- `queue_streams::restart::switch_all` meets its contract: the first i streams are done. Assumes nothing.
abbrev pub invariant-loop-i : goal.invariant-loop-i
invariant-loop-i l = l.queue ≡ switched_all l.interleaving l.initial.queue l.i
