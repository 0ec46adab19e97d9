use mathlib.Core.Path.{◌∙◌}
use Rattle.active_table.proofs.Passing.{behind_later, behind_sooner, behind_level}
use Rattle.active_table.proofs.four_behind.Goals as goal

-- `active_table::four_behind` meets its contract: each return is what its definition says, by what the calls ensure and the tests taken. Assumes nothing.
pub returns-then-best-earliest : goal.returns-then-best-earliest
returns-then-best-earliest c = behind_later _ _ c.args.best _ c.soonest_of-earliest.ensures c.if-best-earliest.true

pub returns-then-earliest-best : goal.returns-then-earliest-best
returns-then-earliest-best c = behind_sooner _ _ c.args.best _ c.soonest_of-earliest.ensures c.if-earliest-best.true

pub returns : goal.returns
returns c = c.ids_behind_in_four.ensures ∙ behind_level _ _ c.args.best _ c.soonest_of-earliest.ensures c.if-best-earliest.false c.if-earliest-best.false
