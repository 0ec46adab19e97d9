-- After `counter` turns words, store and cursor are those of `turns` (`Going`), and what is kept of the groups holds (`Hints`).
use Rattle.payload_store.specs.Moving.{Hints}
use Rattle.payload_store.proofs.Choice.{Going}
use Rattle.payload_store.proofs.move_all.Given as goal

abbrev pub invariant-loop : goal.invariant-loop
invariant-loop l = Going l.initial.queue l.initial.store l.queue l.store l.cursor l.counter × Hints l.queue l.cursor l.kept
