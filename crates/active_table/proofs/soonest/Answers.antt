-- One row more finishes earlier than those before, or it does not.
use Rattle.std.proofs.Common.{sym}
use Rattle.active_table.specs.Parts.{rows_of}
use Rattle.active_table.proofs.Passing.{soonest_none, soonest_next}
use Rattle.active_table.proofs.soonest.Goals as goal

pub loop-row-init : goal.loop-row-init
loop-row-init c = sym (soonest_none (rows_of c.args.table.now))

pub loop-row-preserved : goal.loop-row-preserved
loop-row-preserved c = soonest_next (rows_of c.args.table.now) c.loop-row.row-index _ _ c.loop-row.invariant c.min-time.ensures
