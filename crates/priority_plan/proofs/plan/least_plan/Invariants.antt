-- `priority_plan::plan::least_plan` meets its contract: the streams from place i on have their priorities (`State`). Assumes nothing.
use Rattle.priority_plan.proofs.Loops.{State}
use Rattle.priority_plan.proofs.plan.least_plan.Given as goal

abbrev pub invariant-loop-at : goal.invariant-loop-at
invariant-loop-at l = State l.limit l.ids l.sizes l.values l.finish l.next l.at
