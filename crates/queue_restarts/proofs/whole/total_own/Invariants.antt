-- `queue_restarts::whole::total_own` meets its contract: the total of the first i streams. Assumes nothing.
use mathlib.Core.Path.{◌≡◌}
use Prim.Native.Nat.{◌<◌}
use Rattle.queue_restarts.specs.Reset.{sum_all}
use Rattle.queue_restarts.proofs.whole.total_own.Given as goal

-- `queue_restarts::whole::total_own` meets its contract: the total of the first i streams. Assumes nothing.
abbrev pub invariant-loop-i : goal.invariant-loop-i
invariant-loop-i l = (l.sum < 18446744073709551616) × (l.sum ≡ (sum_all l.queue l.total l.i).total)
