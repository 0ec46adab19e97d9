-- The lent rows are the queue's.
use Rattle.std.proofs.Common.{◌∙◌}
use Rattle.active_table.proofs.Parts.{rows_seek}
use Rattle.active_table.proofs.position_in.Goals as goal

pub returns : goal.returns
returns g c = c.position.ensures ∙ rows_seek c.rows_at-table.ensures c.args.stream_id
