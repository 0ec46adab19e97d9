-- The lent rows are the queue's, and a finish time fits its word.
use Rattle.std.proofs.Common.{◌<◌, ◌+◌, ◌^◌, ◌∙◌, arith}
use Rattle.queue_words.specs.Active.{active_at}
use Rattle.active_table.proofs.Parts.{rows_best}
use Rattle.active_table.proofs.least_of.Goals as goal

pub returns : goal.returns
unfolding active_at
returns g c =
    let l : (active_at c.args.queue.now (c.args.from + 0)).virtual_finish_time < 2 ^ 64 = c.fits-queue _ in
    (c.least.ensures ∙ rows_best c.rows_at-table.ensures c.args.start, omega arith)
