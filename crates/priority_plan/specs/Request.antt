-- Request 13/13 on the answer, said without the way it is computed. Assumes nothing.
use Rattle.std.specs.Prelude.{◌≡◌, ◌↔◌, true, false, List, ℕ}
use Rattle.std.proofs.Math.Option.{get_or}
use Rattle.queue_model.specs.Refusals.{first_refusal, limit_wrong}
use Rattle.queue_streams.specs.Answers.{call_number}
use Rattle.priority_plan.specs.PlannedPriorities.{PlannedPriorities}
use Rattle.priority_plan.specs.Works.{PlannedStream, planned_streams, Works, LeastSet}
use Rattle.priority_plan.specs.Lists.{list_wrong}
use Rattle.priority_plan.specs.Plan.{none_works, plan_checks, refused_plan, made_plan, planned}

-- What the answer has to be: the least working set, or 29 where none works.
pub data Right (limit : ℕ) (hs : List PlannedStream) (r : PlannedPriorities) : Type 0 where
  least_given : (ps : List ℕ) → LeastSet limit hs ps → r ≡ made_plan ps → Right limit hs r
  none_given : ((ps : List ℕ) → Works limit hs ps → ⊥) → r ≡ refused_plan 29 → Right limit hs r

-- The refusals in their order, else the right answer; and the paper's number of the answer: 0 where the priorities are given, else the refusal's.
pub record Answers (limit : ℕ) (ids sizes : List ℕ) (r : PlannedPriorities) : Type 0 where
  pub answer_number : call_number r.answer ≡ get_or (first_refusal (plan_checks limit ids sizes)) 0
  pub wrong_limit : (limit_wrong limit).applies ≡ true → r ≡ refused_plan 1
  pub wrong_list : (limit_wrong limit).applies ≡ false → list_wrong ids sizes ≡ true → r ≡ refused_plan 28
  pub right : (limit_wrong limit).applies ≡ false → list_wrong ids sizes ≡ false → Right limit (planned_streams ids sizes) r
  pub none_exactly : (limit_wrong limit).applies ≡ false → list_wrong ids sizes ≡ false → (r ≡ refused_plan 29) ↔ ((ps : List ℕ) → Works limit (planned_streams ids sizes) ps → ⊥)

unfoldable pub Request13Answer : Type 0
unfolding planned list_wrong planned_streams first_refusal none_works
Request13Answer = (limit : ℕ) (ids sizes : List ℕ) → Answers limit ids sizes (planned limit ids sizes)
