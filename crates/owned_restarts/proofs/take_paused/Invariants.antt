-- `owned_restarts::take_paused` meets its contract: the ids of the paused ones among the first i streams, at most i, and these marked (proofs/Takes.antt). Assumes nothing.
use mathlib.Core.Path.{◌≡◌}
use Prim.Native.Nat.{◌≤◌}
use Rattle.queue_restarts.specs.Ready.{collected, marked_all}
use Rattle.queue_restarts.proofs.Loops.{gathered}
use Rattle.owned_restarts.proofs.take_paused.Given as goal

abbrev pub invariant-loop-i : goal.invariant-loop-i
invariant-loop-i l = (l.count ≤ l.i) × (gathered l.count l.ids ≡ collected l.initial.queue l.i) × (l.queue ≡ marked_all l.initial.queue l.i)
