-- `receiver_fragments::freeing::measure_message` meets its contract: what is left to measure from here is what was to measure. Assumes nothing.
use mathlib.Core.Path.{◌≡◌}
use Prim.Native.Nat.{◌≤◌, ◌<◌, ◌-◌}
use Rattle.receiver_fragments.specs.Freeing.{measured}
use Rattle.receiver_fragments.proofs.freeing.measure_message.Given as goal

abbrev pub invariant-loop : goal.invariant-loop
invariant-loop l = (l.i < 4096) × ((l.left ≤ l.used) × (measured (4096 - l.counter) l.receiver l.interleaved l.i l.len l.left ≡ measured 4096 l.receiver l.interleaved l.row l.len l.used))
