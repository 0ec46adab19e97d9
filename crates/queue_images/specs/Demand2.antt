-- Demand 2 on images, on the words and stores that the calls leave. Assumes nothing.
use Rattle.std.specs.Prelude.{ℕ, ◌≤◌, ◌<◌, ◌^◌, ◌≡◌, Bool, List, length, take}
use Rattle.queue_model.specs.Types.{Queue}
use Rattle.queue_model.specs.Demands.{fresh, forget_plain, Matched}
use Rattle.queue_model.specs.RustHandover.{HandoverState, handover_state, restore_from_state, restore_remembering}
use Rattle.queue_streams.specs.Call.{Accepted}
use Rattle.saving.specs.Save.{saved_as, save_image}
use Rattle.saving.specs.Saved.{Image}
use Rattle.queue_runs.specs.Calls.{restore, set_interleaving, called}
use Rattle.queue_runs.specs.Creation.{Arguments, options_with, new_state, Creates}
use Rattle.queue_runs.specs.Demand3.{Reached}
use Rattle.queue_runs.specs.Meaning.{queue_of, GoodState}
use Rattle.queue_runs.specs.Run.{State, step}

-- Saving the queue s at a time into a lent buffer is accepted: the image is the first `size` bytes of what the buffer is then.
pub record Saves (s : State) (saved : ℕ) (buffer after : List ℕ) (size : ℕ) : Type 0 where
  pub short : length buffer < 2 ^ 64
  pub accepted : save_image s.words s.store buffer saved ≡ saved_as (Image size) after

-- A new queue with an interleaving choice.
abbrev pub fresh_state : Arguments → State → Bool → State
fresh_state a new b = (step (set_interleaving b) (new_state a new)).next

-- Restoring the image into it is accepted, and leaves what `by` restores from the Rust's own record (queue_model: specs/RustHandover), but for the
-- streams that have nothing to
-- restore.
pub record Restores (by : ℕ → HandoverState → Queue → Queue) (a : Arguments) (len : ℕ) (s new : State) (saved time : ℕ) (b : Bool) (image : List ℕ) : Type 0 where
  pub accepted : (step (restore time image) (fresh_state a new b)).shows.answer ≡ called (Accepted 0)
  pub good : GoodState (step (restore time image) (fresh_state a new b)).next
  pub stands_for : queue_of (step (restore time image) (fresh_state a new b)).next
      ≡ forget_plain (by time (handover_state saved (queue_of s)) (fresh (options_with a len) b))

-- "Every saved image is accepted at any allowed time by a new queue created alike, and restores what the Rust restores from its own record", as document
-- 02's 10/13 amends it ("Restoring
-- without interleaving shall remember the stream whose first message is half-sent"): whenever it was saved, and whatever the new queue's interleaving choice.
unfoldable pub Demand2Images : Type 0
Demand2Images =
    (a : Arguments) (len : ℕ) (s new : State) (saved time size : ℕ) (buffer after : List ℕ) (b : Bool)
    → Reached a len s → Saves s saved buffer after size
    → Creates a new → length new.store ≡ len → time ≤ 4611686018427387903
    → Restores restore_remembering a len s new saved time b (take size after)

-- 10/13: "The Rust is matched on images without a half-sent message and on those restored with interleaving."
unfoldable pub Demand2Rust : Type 0
Demand2Rust =
    (a : Arguments) (len : ℕ) (s new : State) (saved time size : ℕ) (buffer after : List ℕ) (b : Bool)
    → Reached a len s → Saves s saved buffer after size
    → Creates a new → length new.store ≡ len → time ≤ 4611686018427387903
    → Matched b (handover_state saved (queue_of s))
    → Restores restore_from_state a len s new saved time b (take size after)
