-- `owned_saving::counting::count_records` meets its contract: so many of the first i streams have a record. Assumes nothing.
use mathlib.Core.Path.{◌≡◌}
use Prim.Native.Nat.{◌≤◌}
use Rattle.queue_state.specs.Chains.{sum_to}
use Rattle.saving.specs.Measure.{records_of}
use Rattle.owned_saving.proofs.counting.count_records.Given as goal

abbrev pub invariant-loop-i : goal.invariant-loop-i
invariant-loop-i l = (l.count ≡ sum_to (records_of l.queue) l.i) × (l.count ≤ l.i)
