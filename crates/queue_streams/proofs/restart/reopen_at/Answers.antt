-- `queue_streams::restart::reopen_at` meets its contract: the place is in its table, by what it asks for. Assumes nothing.
use native.Mathlib.Omega.{arith}
use Rattle.queue_streams.proofs.Restarts.{reopen_placed, reopen_done_in_lem, reopened_inside}
use Rattle.queue_streams.proofs.restart.reopen_at.Goals as goal

-- `queue_streams::restart::reopen_at` meets its contract: the place is in its table, by what it asks for. Assumes nothing.
pub load_stream-s-requires : goal.load_stream-s-requires
load_stream-s-requires c = omega (arith, reopen_placed _ _ _ _ c.requires)

pub reopen_in-requires : goal.reopen_in-requires
reopen_in-requires c = (
  omega (arith, reopen_placed _ _ _ _ c.requires),
  reopen_done_in_lem _ _ _ _ c.requires _ c.load_stream-s.ensures,
)

pub returns : goal.returns
returns c =
    reopened_inside _ _ _ _ _ _ (reopen_placed _ _ _ _ c.requires) c.load_stream-s.ensures
    c.reopen_in.ensures
