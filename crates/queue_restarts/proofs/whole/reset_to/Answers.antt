use mathlib.Core.Path.{refl}
use Rattle.queue_streams.proofs.Restarts.{room_fits}
use Rattle.queue_restarts.proofs.Settled.{reset_steps}
use Rattle.std.proofs.Common.{refl}
use Rattle.queue_restarts.proofs.whole.reset_to.Goals as goal

-- `queue_restarts::whole::reset_to` meets its contract: every step is done, since the rows suffice. Assumes nothing.
pub reset_all-requires : goal.reset_all-requires
reset_all-requires c = (
  room_fits _ _ _ _ refl c.requires.1 c.requires.0,
  reset_steps _ _ _ _ _ _ c.whole.ensures c.requires.1 c.requires.0 c.store_totals.ensures,
)
