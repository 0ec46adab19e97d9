-- `saving::measuring::tally_streams` meets its contract: what the pass finds from the start on is what it finds from here on. Assumes nothing.
use mathlib.Core.Path.{◌≡◌}
use Prim.Native.Nat.{◌≤◌, ◌-◌}
use Rattle.saving.specs.Measure.{tally_start, tally_from, Small}
use Rattle.saving.proofs.measuring.tally_streams.Given as goal

abbrev pub invariant-loop-i : goal.invariant-loop-i
invariant-loop-i l = (l.t.streams ≤ l.i) × Small l.t × (tally_from l.queue l.len tally_start 0 l.known ≡ tally_from l.queue l.len l.t l.i (l.known - l.i))
