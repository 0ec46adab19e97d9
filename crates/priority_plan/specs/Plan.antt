-- What the planner's call answers. Assumes nothing.
use Rattle.std.specs.Prelude.{Bool, List, [], ◌∷◌, ◌++◌, ℕ, ◌-◌, ltb, length, replicate, Result, Ok, Err}
use Rattle.std.proofs.Math.Option.{Option, none, some}
use Rattle.std.specs.Prelude.{if◌then◌else◌}
use Rattle.queue_model.specs.Logic.{any}
use Rattle.queue_model.specs.Refusals.{Check, ◌when◌, first_refusal, limit_wrong}
use Rattle.types.specs.Refusal.{refusal_number}
use Rattle.types.specs.declared.refusal.Refusal.{Refusal}
use Rattle.queue_streams.specs.Call.{Accepted, Refused}
use Rattle.priority_plan.specs.PlannedPriorities.{PlannedPriorities}
use Rattle.priority_plan.specs.declared.plan.PlannedPriorities as code
use Rattle.priority_plan.specs.Works.{PlannedStream, planned_streams, max_priority}
use Rattle.priority_plan.specs.Least.{least_set}
use Rattle.priority_plan.specs.Lists.{max_planned, list_wrong}

-- ------------------------------------------------------------------ the refusals

-- "29 when no set of priorities works": one of the least set is above 65,535. (That this is exactly where none works is `request13_answer`.)
unfoldable pub none_works : ℕ → List PlannedStream → Bool
unfolding any least_set
none_works limit hs = any (ltb max_priority) (least_set limit hs)

-- "a wrong payload limit gets 1 before either, and 28 comes before 29".
abbrev pub plan_checks : ℕ → List ℕ → List ℕ → List Check
plan_checks limit ids sizes = limit_wrong limit ∷ (28 when list_wrong ids sizes) ∷ (29 when none_works limit (planned_streams ids sizes)) ∷ []

-- ------------------------------------------------------------------ the answer

-- What the code answers, with the documents' numbers: the priorities, or a refusal and no priority.
abbrev pub as_plan : Result code.PlannedPriorities Refusal → PlannedPriorities
as_plan (Ok p) = record { answer = Accepted 0; count = p.count; values = p.values }
as_plan (Err r) = record { answer = Refused (refusal_number r); count = 0; values = replicate max_planned 0 }

-- A refusal's number, and no priority.
abbrev pub refused_plan : ℕ → PlannedPriorities
refused_plan n = record { answer = Refused n; count = 0; values = replicate max_planned 0 }

-- The priorities by value with their count, in the list's order; the other places are 0.
abbrev pub made_plan : List ℕ → PlannedPriorities
made_plan ps = record { answer = Accepted 0; count = length ps; values = ps ++ replicate (max_planned - length ps) 0 }

unfoldable pub plan_or : Option ℕ → List ℕ → PlannedPriorities
plan_or none ps = made_plan ps
plan_or (some n) ps = refused_plan n

-- The least set as an answer, or 29.
unfoldable pub least_plan : ℕ → List PlannedStream → PlannedPriorities
unfolding none_works least_set
least_plan limit hs = if none_works limit hs then refused_plan 29 else made_plan (least_set limit hs)

-- What the call answers.
unfoldable pub planned : ℕ → List ℕ → List ℕ → PlannedPriorities
unfolding planned_streams list_wrong none_works least_set first_refusal plan_or
planned limit ids sizes = plan_or (first_refusal (plan_checks limit ids sizes)) (least_set limit (planned_streams ids sizes))
