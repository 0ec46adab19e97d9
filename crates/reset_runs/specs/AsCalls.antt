-- What the handler does to its queue are calls of the queue's own: what is proved of every list of those (no 16, the account, demand 3) is proved of a
-- queue behind a handler. Assumes nothing.
use Rattle.std.specs.Prelude.{◌≡◌, List}
use Rattle.queue_runs.specs.Calls.{Call}
use Rattle.queue_runs.specs.Run as run
use Rattle.queue_runs.specs.Meaning.{AllTyped}
use Rattle.reset_runs.specs.Uses.{Use, AllAllowed, Pair, after}

-- A list of the queue's calls that leaves the queue as these uses do.
pub record QueueCalls (us : List Use) (p : Pair) : Type 0 where
  pub calls : List Call
  pub typed : AllTyped calls
  pub same : (after us p).queue ≡ run.after calls p.queue

abbrev pub HandlerAsCalls : Type 0
HandlerAsCalls = (us : List Use) (p : Pair) → AllAllowed us → QueueCalls us p
