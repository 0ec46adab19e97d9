-- `receiver_messages::walks::mark_whole` meets its contract: what is left to mark from here is what was to mark. Assumes nothing.
use mathlib.Core.Path.{◌≡◌}
use Prim.Native.Nat.{◌<◌, ◌-◌}
use Rattle.receiver_messages.specs.Walks.{mark_whole}
use Rattle.receiver_messages.proofs.walks.mark_whole.Given as goal

abbrev pub invariant-loop : goal.invariant-loop
invariant-loop l = (l.i < 4096) × (mark_whole (4096 - l.counter) l.receiver l.interleaved l.i ≡ mark_whole 4096 l.initial.receiver l.interleaved l.row)
