-- `active_table::first_row` meets its contract: a row behind no other is the least of itself. Assumes nothing.
use Rattle.active_table.proofs.Passing.{least_begins}
use Rattle.active_table.proofs.first_row.Goals as goal

-- `active_table::first_row` meets its contract: a row behind no other is the least of itself. Assumes nothing.
pub returns : goal.returns
returns c = least_begins _ _ _ c.least_of.ensures.0 c.least_of.ensures.1
