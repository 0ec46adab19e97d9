-- `queue_restarts::ready::collect` meets its contract: the ids of the paused ones among the first i streams, at most i, and what is asked is whether the places from position i on fit. Assumes nothing.
use mathlib.Core.Path.{◌≡◌}
use Prim.Native.Nat.{◌-◌, ◌≤◌}
use Rattle.queue_restarts.specs.Ready.{places_fit, collected}
use Rattle.queue_restarts.proofs.Loops.{gathered}
use Rattle.queue_restarts.proofs.ready.collect.Given as goal

-- `queue_restarts::ready::collect` meets its contract: the ids of the paused ones among the first i streams, at most i, and what is asked is whether the places from position i on fit. Assumes nothing.
abbrev pub invariant-loop-i : goal.invariant-loop-i
invariant-loop-i l = (l.count ≤ l.i) × (gathered l.count l.ids ≡ collected l.queue l.i) × (places_fit l.queue 0 l.n ≡ places_fit l.queue l.i (l.n - l.i))
