-- `owned_streams::questions::count_paused` meets its contract: so many are paused among the first i streams. Assumes nothing.
use mathlib.Core.Path.{◌≡◌}
use Prim.Native.Nat.{◌≤◌}
use Rattle.queue_restarts.specs.Ready.{collected}
use Rattle.owned_streams.proofs.questions.count_paused.Given as goal

abbrev pub invariant-loop-i : goal.invariant-loop-i
invariant-loop-i l = (l.count ≡ (collected l.queue l.i).count) × (l.count ≤ l.i)
