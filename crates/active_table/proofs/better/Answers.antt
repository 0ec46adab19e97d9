-- `active_table::better` meets its contract: each return is a case of `better` (proofs/Laws.antt). Assumes nothing.
use mathlib.Core.Path.{◌∙◌}
use Rattle.active_table.proofs.Laws.{sooner, later, first_id, second_id}
use Rattle.active_table.proofs.better.Goals as goal

-- `active_table::better` meets its contract: each return is a case of `better` (proofs/Laws.antt). Assumes nothing.
pub returns-then-best-row : goal.returns-then-best-row
returns-then-best-row c = sooner _ c.args.row _ c.if-best-row.true

pub returns-then-row-best : goal.returns-then-row-best
returns-then-row-best c = c.best_of.ensures ∙ later _ c.args.row _ c.if-row-best.true

pub returns-then-best-row-2 : goal.returns-then-best-row-2
returns-then-best-row-2 c = first_id _ c.args.row _ c.if-best-row.false c.if-row-best.false c.if-best-row-2.true

pub returns : goal.returns
returns c = c.best_of-2.ensures ∙ second_id _ c.args.row _ c.if-best-row.false c.if-row-best.false c.if-best-row-2.false
