-- The best row is `least_in` of the group's rows before i.
use Rattle.std.proofs.Common.{◌≡◌, ◌*◌, ◌-◌}
use Rattle.payload_store.specs.Moving.{least_in}
use Rattle.payload_store.proofs.nearest.least_in.Given as goal

abbrev pub invariant-loop-i : goal.invariant-loop-i
invariant-loop-i l = l.best ≡ least_in l.queue l.cursor (l.g * 32) (l.i - l.g * 32)
