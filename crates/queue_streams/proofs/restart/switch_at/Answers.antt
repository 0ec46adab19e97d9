-- `queue_streams::restart::switch_at` meets its contract: the place is in its table, by what it asks for. Assumes nothing.
use native.Mathlib.Omega.{arith}
use Rattle.queue_streams.proofs.Restarts.{switch_placed, switch_waits, switched_inside}
use Rattle.queue_streams.proofs.restart.switch_at.Goals as goal

-- `queue_streams::restart::switch_at` meets its contract: the place is in its table, by what it asks for. Assumes nothing.
pub load_stream-s-requires : goal.load_stream-s-requires
load_stream-s-requires c = omega (arith, switch_placed _ _ _ c.requires)

pub reschedule-requires : goal.reschedule-requires
reschedule-requires c = switch_waits _ _ _ c.requires _ c.load_stream-s.ensures

pub returns : goal.returns
returns c =
    switched_inside _ _ _ _ _ (switch_placed _ _ _ c.requires) c.load_stream-s.ensures
    c.reschedule.ensures
