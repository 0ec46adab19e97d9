-- What asking for the ready ids promises from good words. Assumes nothing.
use Rattle.std.specs.Prelude.{ℕ, ◌-◌, ◌≡◌, List, [], ◌++◌, length, replicate, take}
use Rattle.queue_model.specs.Types.{Answer, refused, done, number, flag, ids, fragment, nothing_waits, filled}
use Rattle.queue_model.specs.Run as run
use Rattle.queue_model.specs.Ascending.{Ascending}
use Rattle.queue_streams.specs.Call.{Call}
use Rattle.queue_streams.specs.Call.{Accepted, Refused}
use Rattle.queue_restarts.specs.ReadyStreams.{ReadyStreams}
use Rattle.queue_state.specs.Model.{model}
use Rattle.queue_state.specs.Good.{Good}
use Rattle.queue_state.specs.Promise.{shown}

-- "Ready ids, at most 256, come by value with their count in ascending order": behind them are zeroes.
abbrev pub ids_of : Call → List ℕ → ReadyStreams
ids_of c l = record { answer = c; count = length l; ids = l ++ replicate (256 - length l) 0 }

-- The model's answer.
abbrev pub ready_of : Answer → ReadyStreams
ready_of (refused n) = ids_of (Refused n) []
ready_of done = ids_of (Accepted 0) []
ready_of (number m) = ids_of (Accepted 0) []
ready_of (flag b) = ids_of (Accepted 0) []
ready_of (ids l) = ids_of (Accepted 0) l
ready_of (fragment f) = ids_of (Accepted 0) []
ready_of nothing_waits = ids_of (Accepted 0) []
ready_of (filled bs n) = ids_of (Accepted 0) []

-- The call is the model's: good words, which stand for the model's next queue, and the model's ids, "in ascending order".
pub record Readies (ws st : List ℕ) (r : ReadyStreams) (ws' st' : List ℕ) : Type 0 where
  pub good : Good ws' st'
  pub next : model ws' st' ≡ (run.step run.ready_ids (model ws st)).next
  pub answer : r ≡ ready_of (shown run.ready_ids ws st).answer
  pub ascending : Ascending (take r.count r.ids)
