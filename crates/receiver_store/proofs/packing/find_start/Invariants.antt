-- `receiver_store::packing::find_start` meets its contract: what is left to find from here is what was to find. Assumes nothing.
use mathlib.Core.Path.{◌≡◌}
use Prim.Native.Nat.{◌+◌, ◌≤◌, ◌-◌}
use Rattle.receiver_store.specs.Packing.{start_from}
use Rattle.receiver_store.proofs.packing.find_start.Given as goal

abbrev pub invariant-loop : goal.invariant-loop
invariant-loop l =
    (l.high + l.sum ≤ l.end) × (start_from (4097 - l.counter) l.receiver l.goal l.p l.row l.high l.sum ≡ start_from 4097 l.receiver l.goal l.newest 4096 l.end 0)
