-- `queue_streams::restart::reopen_own` meets its contract: the rows suffice, so it is `reopen`, and every step is done. Assumes nothing.
use mathlib.Core.Path.{refl}
use Rattle.queue_streams.proofs.Restarts.{room_fits, reopen_done}
use Rattle.queue_streams.proofs.Settled.{reopen_steps}
use Rattle.std.proofs.Common.{refl}
use Rattle.queue_streams.proofs.restart.reopen_own.Goals as goal

-- `queue_streams::restart::reopen_own` meets its contract: the rows suffice, so it is `reopen`, and every step is done. Assumes nothing.
pub reopen_all-requires : goal.reopen_all-requires
reopen_all-requires c = (
  room_fits _ _ _ _ refl c.requires c.load_totals-t.ensures,
  reopen_steps _ _ _ c.whole.ensures c.requires c.load_totals-t.ensures,
)

pub returns : goal.returns
returns c =
    reopen_done _ _ _ refl _ _ c.requires c.load_totals-t.ensures
    c.reopen_all.ensures
