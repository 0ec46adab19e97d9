use Rattle.std.proofs.Common.{rules}
use Rattle.queue_model.specs.Scheduler.{cost}
use Rattle.stream_scheduler.proofs.weighted_cost.Goals as goal

pub returns : goal.returns
unfolding cost
returns c = search rules
