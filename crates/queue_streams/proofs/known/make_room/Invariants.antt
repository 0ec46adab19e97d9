-- `queue_streams::known::make_room` meets its contract: the rows above i have moved up. Assumes nothing.
use mathlib.Core.Path.{◌≡◌}
use Prim.Native.Nat.{◌-◌, ◌≤◌}
use Rattle.queue_streams.specs.Known.{shifted}
use Rattle.queue_streams.proofs.known.make_room.Given as goal

-- `queue_streams::known::make_room` meets its contract: the rows above i have moved up. Assumes nothing.
abbrev pub invariant-loop-i : goal.invariant-loop-i
invariant-loop-i l = (l.position ≤ l.i) × (l.queue ≡ shifted l.initial.queue l.n (l.n - l.i))
