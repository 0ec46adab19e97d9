-- `best` is the best of `start` and the first g * 4, and then i, rows.
use Rattle.std.proofs.Common.{◌≡◌, ◌*◌}
use Rattle.active_table.specs.Parts.{rows_from}
use Rattle.active_table.specs.Rows.{best_among}
use Rattle.active_table.proofs.least_among.Given as goal

abbrev pub invariant-loop-g : goal.invariant-loop-g
invariant-loop-g l = l.best ≡ best_among (rows_from l.queue l.from) l.fn.start l.from (l.g * 4)

abbrev pub invariant-loop-i : goal.invariant-loop-i
invariant-loop-i l = l.best ≡ best_among (rows_from l.queue l.from) l.fn.start l.from l.i
