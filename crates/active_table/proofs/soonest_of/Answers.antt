-- The lent rows are the queue's.
use Rattle.std.proofs.Common.{◌∙◌}
use Rattle.active_table.proofs.Parts.{rows_soonest}
use Rattle.active_table.proofs.soonest_of.Goals as goal

pub returns : goal.returns
returns g c = c.soonest.ensures ∙ rows_soonest c.rows_at-table.ensures
