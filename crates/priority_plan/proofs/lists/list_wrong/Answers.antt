-- `priority_plan::lists::list_wrong` meets its contract. Assumes nothing.
use mathlib.Core.Path.{sym, ◌∙◌}
use Rattle.priority_plan.proofs.Loops.{list_empty, list_long, list_unlike, list_twice, list_rest}
use Rattle.priority_plan.proofs.lists.list_wrong.Goals as goal

-- `priority_plan::lists::list_wrong` meets its contract. Assumes nothing.
pub returns-then-ids-eq0 : goal.returns-then-ids-eq0
returns-then-ids-eq0 c = list_empty _ _ c.if-ids-eq0.true

pub returns-then-ids-gt-MAX_PLANNED : goal.returns-then-ids-gt-MAX_PLANNED
returns-then-ids-gt-MAX_PLANNED c = list_long _ _ c.if-ids-gt-MAX_PLANNED.true

pub returns-then-ids-sizes : goal.returns-then-ids-sizes
returns-then-ids-sizes c = list_unlike _ _ c.if-ids-sizes.true

pub returns-then-twice : goal.returns-then-twice
returns-then-twice c = list_twice _ _ (sym c.named_twice-twice.ensures ∙ c.if-twice.true)

pub returns : goal.returns
returns c = c.size_outside.ensures ∙ list_rest _ _ c.if-ids-eq0.false c.if-ids-gt-MAX_PLANNED.false c.if-ids-sizes.false (sym c.named_twice-twice.ensures ∙ c.if-twice.false)
