-- `queue_sending::own::look_own_for` meets its contract: the stream is known, since the look is not broken (proofs/Ahead.antt). Assumes nothing.
use Rattle.queue_sending.proofs.Ahead.{looked_known, row_fits, at_looked}
use Rattle.queue_sending.proofs.own.look_own_for.Goals as goal

pub row_known-row-requires : goal.row_known-row-requires
row_known-row-requires c = looked_known _ _ _ _ c.requires

pub look_own_at-requires : goal.look_own_at-requires
look_own_at-requires c = row_fits _ _ _ _ c.requires _ _ c.row_known-row.ensures

pub returns : goal.returns
returns c = at_looked _ _ _ _ c.requires _ _ c.row_known-row.ensures _ c.look_own_at.ensures
