-- The best of `start` and the first i rows.
use Rattle.std.proofs.Common.{◌≡◌}
use Rattle.active_table.specs.Rows.{best_among}
use Rattle.active_table.specs.Parts.{rows_of}
use Rattle.active_table.proofs.least.Given as goal

abbrev pub invariant-loop-i : goal.invariant-loop-i
invariant-loop-i l = l.best ≡ best_among (rows_of l.table) l.initial.best l.from l.i
