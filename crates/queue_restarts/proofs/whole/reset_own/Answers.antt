use mathlib.Core.Path.{refl}
use Rattle.queue_streams.proofs.Restarts.{room_fits}
use Rattle.queue_restarts.proofs.Resets.{total_fits, total_done}
use Rattle.std.proofs.Common.{refl}
use Rattle.queue_restarts.proofs.whole.reset_own.Goals as goal

-- `queue_restarts::whole::reset_own` meets its contract: the tests cannot fail, so it is `reset_queue`. Assumes nothing.
pub total_own-total-requires : goal.total_own-total-requires
total_own-total-requires c = (
  room_fits _ _ _ _ refl c.requires.0 c.load_totals-t.ensures,
  total_fits _ _ c.load_totals-t.ensures c.requires.1,
)

pub returns : goal.returns
returns c =
    total_done _ _ _ _ c.load_totals-t.ensures c.requires.0 c.requires.1
    c.total_own-total.ensures c.reset_to.ensures
