-- What the planner's call answers, in the documents' numbers: its answer, how many priorities there are, and the table whose first they are. Assumes nothing.
use Rattle.std.specs.Prelude.{ℕ, List}
use Rattle.queue_streams.specs.Call.{Call}

pub record PlannedPriorities : Type 0 where
  pub answer : Call
  pub count : ℕ
  pub values : List ℕ
