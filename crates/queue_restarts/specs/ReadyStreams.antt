-- What the call for the ready ids answers, in document 01's numbers: its answer, how many ids there are, and the table whose first they are. Assumes nothing.
use Rattle.std.specs.Prelude.{ℕ, List}
use Rattle.queue_streams.specs.Call.{Call}

pub record ReadyStreams : Type 0 where
  pub answer : Call
  pub count : ℕ
  pub ids : List ℕ
