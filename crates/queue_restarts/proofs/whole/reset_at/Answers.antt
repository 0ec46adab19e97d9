use native.Mathlib.Omega.{arith}
use Rattle.queue_restarts.proofs.Resets.{reset_placed, reset_done_in_lem, reset_inside}
use Rattle.queue_restarts.proofs.whole.reset_at.Goals as goal

-- `queue_restarts::whole::reset_at` meets its contract: the place is in its table, by what it asks for. Assumes nothing.
pub load_stream-s-requires : goal.load_stream-s-requires
load_stream-s-requires c = omega (arith, reset_placed _ _ _ _ c.requires)

pub reset_in-requires : goal.reset_in-requires
reset_in-requires c = (
  omega (arith, reset_placed _ _ _ _ c.requires),
  reset_done_in_lem _ _ _ _ c.requires _ c.load_stream-s.ensures,
)

pub returns : goal.returns
returns c = reset_inside _ _ _ _ c.requires _ _ c.load_stream-s.ensures c.reset_in.ensures
