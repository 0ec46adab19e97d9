-- Request 9/13 on the words and stores that the calls leave. Assumes nothing.
use Rattle.std.specs.Prelude.{ℕ, ◌≡◌, List, []}
use Rattle.std.proofs.Math.Option.{Option, none}
use Rattle.queue_runs.specs.Run.{State}
use Rattle.queue_runs.specs.Creation.{Arguments, new_state, Creates}
use Rattle.queue_runs.specs.Demand3.{Reached, Accepts, restored}
use Rattle.queue_runs.specs.Meaning.{queue_of}
use Rattle.reset_model.specs.Handler as model
use Rattle.reset_model.specs.Uses.{Message}
use Rattle.stream_reset_handler.specs.Underway.{Underway}
use Rattle.std.specs.Prelude.{Some, None}
use Rattle.stream_reset_handler.specs.Handler.{handler_of}
use Rattle.reset_runs.specs.Uses.{Use, AllAllowed, Pair, pair, after, last_message}

-- "From its start on a new or restored queue".
pub data Starts (a : Arguments) : State → Type 0 where
  new : {s : State} → Creates a s → Starts a (new_state a s)
  restored_from : {len : ℕ} {s : State} {time : ℕ} {image : List ℕ} → Reached a len s → Accepts time image s → Starts a (restored time image s)

abbrev pub started : ℕ → State → Pair
started n s = pair (handler_of (model.start n)) s

-- The ids of the resetting streams.
abbrev pub resetting_in : State → List ℕ
resetting_in s = model.resetting_ids (queue_of s).streams

-- "exactly the streams of the request underway are resetting, none without one": with one, its message is the last one written and names these streams,
-- in ascending order.
abbrev pub Named : Underway → List ℕ → Option (List ℕ) → Type 0
Named None ids last = ids ≡ []
Named (Some n) ids last = Message n ids last

-- "From its start on a new or restored queue, with ready ids, commit, rollback and that reset called only by it, exactly the streams of the request
-- underway are resetting, none without
-- one": after any list of the handler's calls, refused ones among them, and of other calls.
unfoldable pub Request9 : Type 0
unfolding after last_message
Request9 =
    (a : Arguments) (s : State) (n : ℕ) (us : List Use) → Starts a s → AllAllowed us
    → Named (after us (started n s)).handler.underway (resetting_in (after us (started n s)).queue) (last_message us (started n s) none)
