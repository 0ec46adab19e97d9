-- `queue_restarts::ready::mark_all` meets its contract: the first i streams are done. Assumes nothing.
use mathlib.Core.Path.{◌≡◌}
use Rattle.queue_restarts.specs.Ready.{marked_all}
use Rattle.queue_restarts.proofs.ready.mark_all.Given as goal

-- `queue_restarts::ready::mark_all` meets its contract: the first i streams are done. Assumes nothing.
abbrev pub invariant-loop-i : goal.invariant-loop-i
invariant-loop-i l = l.queue ≡ marked_all l.initial.queue l.i
