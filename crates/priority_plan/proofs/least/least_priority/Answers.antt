-- `priority_plan::least::least_priority` meets its contract. Assumes nothing.
use mathlib.Core.Path.{ap}
use Prim.Native.Nat.{ℕ, ◌+◌, ◌/◌}
use Rattle.priority_plan.specs.Least.{least_priority}
use Rattle.priority_plan.proofs.least.least_priority.Goals as goal

pub returns : goal.returns
unfolding least_priority
returns c = ap (λ (x : ℕ). x / c.args.bound + 1) c.full_cost.ensures
