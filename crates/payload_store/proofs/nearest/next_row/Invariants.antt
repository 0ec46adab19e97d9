-- The best row is that of the first g groups (`Seeking`).
use Rattle.payload_store.proofs.Groups.{Seeking}
use Rattle.payload_store.proofs.nearest.next_row.Given as goal

abbrev pub invariant-loop-g : goal.invariant-loop-g
invariant-loop-g l = Seeking l.queue l.cursor l.g l.best l.kept
