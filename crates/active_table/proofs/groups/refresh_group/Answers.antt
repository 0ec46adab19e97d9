-- `active_table::groups::refresh_group` meets its contract: the group's word is the place of its least row in it (proofs/Refresh.antt). Assumes nothing.
use Rattle.active_table.proofs.Refresh.{least_in_is, least_place, group_refreshed}
use Rattle.active_table.proofs.groups.refresh_group.Goals as goal

-- `active_table::groups::refresh_group` meets its contract: the group's word is the place of its least row in it (proofs/Refresh.antt). Assumes nothing.
pub overflow_sub-place : goal.overflow_sub-place
overflow_sub-place c = least_place _ _ _ _ (least_in_is _ _ _ _ _ _ c.count_in-count.ensures c.first_row-first.ensures c.least_among-best.ensures)

pub returns : goal.returns
returns c = group_refreshed _ _ _ _ _ (least_in_is _ _ _ _ _ _ c.count_in-count.ensures c.first_row-first.ensures c.least_among-best.ensures) c.store_least.ensures
