-- The rows behind the first.
use Rattle.active_table.specs.Rows.{best_to}
use Rattle.active_table.proofs.least_row.Goals as goal

pub returns : goal.returns
unfolding best_to
returns c = cc
