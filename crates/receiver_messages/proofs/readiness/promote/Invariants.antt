-- `receiver_messages::readiness::promote` meets its contract: what is left to promote from here is what was to promote. Assumes nothing.
use mathlib.Core.Path.{◌≡◌}
use Prim.Native.Nat.{◌-◌}
use Rattle.receiver_messages.specs.Readiness.{promote}
use Rattle.receiver_messages.proofs.readiness.promote.Given as goal

abbrev pub invariant-loop : goal.invariant-loop
invariant-loop l = promote (4096 - l.counter) l.receiver l.interleaved l.stream l.number ≡ promote 4096 l.initial.receiver l.interleaved l.stream l.next
