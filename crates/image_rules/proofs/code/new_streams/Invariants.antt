-- `image_rules::code::new_streams` meets its contract: the sum so far and the new streams of the records from the i-th on are all. Assumes nothing.
use mathlib.Core.Path.{◌≡◌}
use Prim.Native.Nat.{◌+◌, ◌≤◌, ◌-◌}
use lib.ListN.{length}
use Rattle.image_rules.specs.Amounts.{new_streams}
use Rattle.image_rules.proofs.Loops.{LiesFrom}
use Rattle.image_rules.proofs.Places.{Past}
use Rattle.image_rules.proofs.code.new_streams.Given as goal

abbrev pub invariant-loop-i : goal.invariant-loop-i
invariant-loop-i l =
    (l.sum ≤ l.i) × (new_streams l.image l.records l.start 0 l.n ≡ l.sum + new_streams l.image l.records l.at l.least (l.n - l.i)) × (l.place ≤ l.records) × Past l.image l.least l.place
    × LiesFrom l.image (length l.image) l.at l.least (l.n - l.i)
