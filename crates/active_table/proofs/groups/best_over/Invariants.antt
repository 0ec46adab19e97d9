-- `best` is the best of row 0 and the first g groups, which are full.
use Rattle.std.proofs.Common.{◌≡◌}
use Rattle.active_table.specs.Groups.{best_over}
use Rattle.active_table.proofs.groups.best_over.Given as goal

abbrev pub invariant-loop-g : goal.invariant-loop-g
invariant-loop-g l = l.best ≡ best_over l.queue l.n l.g
