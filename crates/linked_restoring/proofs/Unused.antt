-- A queue that knows no stream: its scheduler is as new. Assumes nothing.
use mathlib.Core.Path.{◌≡◌, subst}
use mathlib.Core.List.{List, []}
use Rattle.queue_model.specs.Types.{Stream, Queue}
use Rattle.queue_model.specs.Scheduler.{new_scheduler}
use Rattle.queue_model.proofs.Invariant.Waits.{Listed, Waits}
use Rattle.queue_model.proofs.Invariant.Well.{Well}
use Rattle.queue_model.proofs.Demand3.New.{new_waits}

pub unused_scheduler : (q : Queue) → Well q → q.streams ≡ [] → q.scheduler ≡ new_scheduler q.options.payload_limit
unused_scheduler q w e =
    new_waits q.options.payload_limit q.interleaving q.scheduler (subst (λ (l : List Stream). Waits q.options.payload_limit (Listed q.interleaving l) q.scheduler) e w.waits)
