-- `receiver_fragments::freeing::hand_out` meets its contract: what is left to hand out from here is what was to hand out. Assumes nothing.
use mathlib.Core.Path.{◌≡◌}
use Prim.Native.Nat.{◌*◌, ◌≤◌, ◌<◌, ◌-◌}
use lib.ListN.{length}
use Rattle.receiver_fragments.specs.Freeing.{hand_out}
use Rattle.receiver_fragments.proofs.freeing.hand_out.Given as goal

abbrev pub invariant-loop : goal.invariant-loop
invariant-loop l = (l.i < 4096) × ((l.at ≤ l.counter * 2000000) × ((length l.buffer ≡ length l.initial.buffer) × (hand_out (4096 - l.counter) l.receiver l.store l.buffer l.interleaved l.i l.at ≡ hand_out 4096 l.initial.receiver l.store l.initial.buffer l.interleaved l.row 0)))
