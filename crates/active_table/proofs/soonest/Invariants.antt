-- The earliest finish time of the rows so far.
use Rattle.std.proofs.Common.{◌≡◌}
use Rattle.active_table.specs.Passing.{soonest}
use Rattle.active_table.specs.Parts.{rows_of}
use Rattle.active_table.proofs.soonest.Given as goal

abbrev pub invariant-loop-row : goal.invariant-loop-row
invariant-loop-row l = l.time ≡ soonest (rows_of l.table) l.row-index
