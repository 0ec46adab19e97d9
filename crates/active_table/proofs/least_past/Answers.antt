-- `active_table::least_past` meets its contract: four rows that are passed by leave the best as it is (proofs/Passing.antt). Assumes nothing.
use mathlib.Core.Path.{sym, ◌∙◌}
use Rattle.active_table.proofs.Passing.{four_passed}
use Rattle.active_table.proofs.least_past.Goals as goal

-- `active_table::least_past` meets its contract: four rows that are passed by leave the best as it is (proofs/Passing.antt). Assumes nothing.
pub returns-then-behind : goal.returns-then-behind
returns-then-behind c = sym (four_passed _ _ c.args.best (sym c.four_behind-behind.ensures ∙ c.if-behind.true))
