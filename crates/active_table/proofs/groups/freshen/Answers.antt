-- `active_table::groups::freshen` meets its contract: each return is a case of `group_fresh` (proofs/Refresh.antt). Assumes nothing.
use Rattle.active_table.proofs.Refresh.{freshen_done, freshen_none}
use Rattle.active_table.proofs.groups.freshen.Goals as goal

-- `active_table::groups::freshen` meets its contract: each return is a case of `group_fresh` (proofs/Refresh.antt). Assumes nothing.
pub returns-then-g-k : goal.returns-then-g-k
returns-then-g-k c = freshen_done _ _ _ _ c.groups-k.ensures _ c.if-g-k.true c.refresh_group.ensures

pub returns-else-g-k : goal.returns-else-g-k
returns-else-g-k c = freshen_none _ _ _ _ c.groups-k.ensures c.if-g-k.false
