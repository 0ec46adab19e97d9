-- `receiver_messages::walks::first_row` meets its contract: what is left to walk from here is what was to walk. Assumes nothing.
use mathlib.Core.Path.{◌≡◌}
use Prim.Native.Nat.{◌<◌, ◌-◌}
use Rattle.receiver_messages.specs.Walks.{first_row}
use Rattle.receiver_messages.proofs.walks.first_row.Given as goal

abbrev pub invariant-loop : goal.invariant-loop
invariant-loop l = (l.i < 4096) × (first_row (4096 - l.counter) l.receiver l.interleaved l.i ≡ first_row 4096 l.receiver l.interleaved l.row)
