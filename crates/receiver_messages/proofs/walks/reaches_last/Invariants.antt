-- `receiver_messages::walks::reaches_last` meets its contract: what is left to walk from here is what was to walk. Assumes nothing.
use mathlib.Core.Path.{◌≡◌}
use Prim.Native.Nat.{◌<◌, ◌-◌}
use Rattle.receiver_messages.specs.Walks.{reaches_last}
use Rattle.receiver_messages.proofs.walks.reaches_last.Given as goal

abbrev pub invariant-loop : goal.invariant-loop
invariant-loop l = (l.i < 4096) × (reaches_last (4096 - l.counter) l.receiver l.interleaved l.i ≡ reaches_last 4096 l.receiver l.interleaved l.row)
