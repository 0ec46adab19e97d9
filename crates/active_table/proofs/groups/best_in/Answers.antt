-- `active_table::groups::best_in` meets its contract: a fresh group by its least row, a stale one by its rows (proofs/Refresh.antt). Assumes nothing.
use Rattle.active_table.proofs.Refresh.{in_fresh, in_stale}
use Rattle.active_table.proofs.groups.best_in.Goals as goal

-- `active_table::groups::best_in` meets its contract: a fresh group by its least row, a stale one by its rows (proofs/Refresh.antt). Assumes nothing.
pub returns-then-w-count : goal.returns-then-w-count
returns-then-w-count c = in_fresh _ _ _ _ _ _ _ c.count_in-count.ensures c.load_least-w.ensures c.if-w-count.true c.least_of.ensures.0

pub returns : goal.returns
returns c = in_stale _ _ _ _ _ _ _ c.count_in-count.ensures c.load_least-w.ensures c.if-w-count.false c.least_among.ensures
