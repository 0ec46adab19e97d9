-- Each row is the queue's: the closure looks at it, and changes nothing.
use Rattle.std.proofs.Common.{rules, arith}
use Rattle.active_table.specs.Parts.{rows_from, no_row}
use Rattle.active_table.proofs.Made.{made_each}
use Rattle.active_table.proofs.rows_at.Goals as goal

pub returns : goal.returns
returns g c = record {
  count = c.from_fn.ensures.items.long;
  each = λ i h. made_each _ (rows_from c.args.queue.now c.args.from) _ g.row.N (λ i y q l k. search rules) c.from_fn.result g.row.N (omega arith) c.from_fn.ensures.items.each i no_row h;
}
