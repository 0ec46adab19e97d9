-- `queue_streams::commit::all_quiet` meets its contract: what is asked is whether all from position i on are quiet. Assumes nothing.
use mathlib.Core.Path.{◌≡◌}
use Prim.Native.Nat.{◌-◌}
use Rattle.queue_streams.specs.Commit.{quiet_from}
use Rattle.queue_streams.proofs.commit.all_quiet.Given as goal

-- `queue_streams::commit::all_quiet` meets its contract: what is asked is whether all from position i on are quiet. Assumes nothing.
abbrev pub invariant-loop-i : goal.invariant-loop-i
invariant-loop-i l = quiet_from l.queue l.n 0 l.n ≡ quiet_from l.queue l.n l.i (l.n - l.i)
