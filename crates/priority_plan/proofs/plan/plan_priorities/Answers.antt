-- `priority_plan::plan::plan_priorities` meets its contract. Assumes nothing.
use mathlib.Core.Path.{sym, ◌∙◌}
use Rattle.priority_plan.proofs.Loops.{plan_low, plan_high, plan_list, plan_given, plan_least}
use Rattle.priority_plan.proofs.plan.plan_priorities.Goals as goal

pub returns-then-payload_limit-lt1 : goal.returns-then-payload_limit-lt1
returns-then-payload_limit-lt1 c = plan_low _ _ _ c.if-payload_limit-lt1.true

pub returns-then-payload_limit-gt-MAX_PAYLOAD_LIMIT : goal.returns-then-payload_limit-gt-MAX_PAYLOAD_LIMIT
returns-then-payload_limit-gt-MAX_PAYLOAD_LIMIT c = plan_high _ _ _ c.if-payload_limit-gt-MAX_PAYLOAD_LIMIT.true

pub returns-then-wrong : goal.returns-then-wrong
returns-then-wrong c = plan_list _ _ _ c.if-payload_limit-lt1.false c.if-payload_limit-gt-MAX_PAYLOAD_LIMIT.false (sym c.list_wrong-wrong.ensures ∙ c.if-wrong.true)

pub least_plan-requires : goal.least_plan-requires
least_plan-requires c = plan_given _ _ _ c.if-payload_limit-lt1.false c.if-payload_limit-gt-MAX_PAYLOAD_LIMIT.false (sym c.list_wrong-wrong.ensures ∙ c.if-wrong.false)

pub returns : goal.returns
returns c = c.least_plan.ensures ∙ plan_least _ _ _ c.if-payload_limit-lt1.false c.if-payload_limit-gt-MAX_PAYLOAD_LIMIT.false (sym c.list_wrong-wrong.ensures ∙ c.if-wrong.false)
