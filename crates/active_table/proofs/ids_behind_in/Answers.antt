-- The lent rows are the queue's.
use Rattle.std.proofs.Common.{◌∙◌}
use Rattle.active_table.proofs.Parts.{rows_ids}
use Rattle.active_table.proofs.ids_behind_in.Goals as goal

pub returns : goal.returns
returns g c = c.ids_behind.ensures ∙ rows_ids c.rows_at-table.ensures c.args.id
