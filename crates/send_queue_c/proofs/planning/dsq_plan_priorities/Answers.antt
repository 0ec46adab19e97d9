-- `send_queue_c::planning::dsq_plan_priorities` meets its contract, by what the calls ensure. Assumes nothing.
use Rattle.priority_plan.proofs.Answer.{planned_few}
use Rattle.send_queue_c.proofs.planning.dsq_plan_priorities.Goals as goal

pub tell_planned-requires : goal.tell_planned-requires
tell_planned-requires c = planned_few _ _ _ _ c.plan_priorities-a.ensures
