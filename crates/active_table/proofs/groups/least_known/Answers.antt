-- `active_table::groups::least_known` meets its contract: one group is searched as it is (proofs/Refresh.antt). Assumes nothing.
use Rattle.active_table.proofs.Refresh.{known_one, known_over}
use Rattle.active_table.proofs.groups.least_known.Goals as goal

-- `active_table::groups::least_known` meets its contract: one group is searched as it is (proofs/Refresh.antt). Assumes nothing.
pub returns-then-n-le-FEW : goal.returns-then-n-le-FEW
returns-then-n-le-FEW c = known_one _ _ _ c.if-n-le-FEW.true c.least_row.ensures

pub returns : goal.returns
returns c = known_over _ _ _ c.if-n-le-FEW.false c.best_over.ensures
