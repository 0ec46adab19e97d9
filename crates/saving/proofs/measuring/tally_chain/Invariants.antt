-- `saving::measuring::tally_chain` meets its contract: what the pass finds from the start on is what it finds from here on. Assumes nothing.
use mathlib.Core.Path.{◌≡◌}
use Prim.Native.Nat.{◌-◌}
use Rattle.saving.specs.Measure.{tally_chain, Small}
use Rattle.saving.proofs.measuring.tally_chain.Given as goal

abbrev pub invariant-loop-i : goal.invariant-loop-i
invariant-loop-i l = Small l.t × (tally_chain l.queue l.len l.initial.t 1025 ≡ tally_chain l.queue l.len l.t (1025 - l.i))
