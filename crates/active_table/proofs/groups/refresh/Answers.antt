-- `active_table::groups::refresh` meets its contract: each return is a case of `refreshed` (proofs/Refresh.antt). Assumes nothing.
use Rattle.active_table.proofs.Refresh.{few_rows, refresh_few, refresh_both}
use Rattle.active_table.proofs.groups.refresh.Goals as goal

-- `active_table::groups::refresh` meets its contract: each return is a case of `refreshed` (proofs/Refresh.antt). Assumes nothing.
pub returns-then-n-le-FEW : goal.returns-then-n-le-FEW
returns-then-n-le-FEW c = refresh_few _ _ _ c.load_scheduler_state-s.ensures (few_rows _ _ c.load_scheduler_state-s.ensures c.requires) c.if-n-le-FEW.true

pub returns : goal.returns
returns c =
    refresh_both _ _ _ c.load_scheduler_state-s.ensures
    (few_rows _ _ c.load_scheduler_state-s.ensures
    c.requires) _ _ _
    c.if-n-le-FEW.false c.freshen.ensures c.stale_group-g.ensures
    c.freshen-2.ensures
