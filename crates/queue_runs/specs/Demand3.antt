-- Demand 3, on the words and the store that the calls leave. Assumes nothing.
use Rattle.std.specs.Prelude.{ℕ, ◌≤◌, ◌≡◌, false, ◌↔◌, List, length}
use Rattle.queue_words.specs.Header.{totals_at}
use Rattle.queue_runs.specs.Calls.{Call, restore, Typed}
use Rattle.queue_runs.specs.Run.{State, step, after}
use Rattle.queue_runs.specs.Creation.{Arguments, new_state, Creates}
use Rattle.queue_runs.specs.Meaning.{AllTyped, SameShown}
use Rattle.queue_runs.specs.Refusals.{refusal}

-- A queue that creation with these arguments and a store of this length, in any words and with any bytes in the store, and then calls lead to. (Saving changes nothing.)
pub record Reached (a : Arguments) (len : ℕ) (s : State) : Type 0 where
  pub before : State
  pub calls : List Call
  pub creates : Creates a before
  pub store_is : length before.store ≡ len
  pub typed : AllTyped calls
  pub state_is : s ≡ after calls (new_state a before)

-- "An image is accepted when restoring it is not refused".
pub record Accepts (time : ℕ) (image : List ℕ) (s : State) : Type 0 where
  pub typed : Typed (restore time image)
  pub accepted : refusal (step (restore time image) s).shows.answer ≡ false

-- The queue restored from it.
abbrev pub restored : ℕ → List ℕ → State → State
restored time image s = (step (restore time image) s).next

-- "Two accepted images are equal byte for byte exactly when the queues restored from them cannot be told apart". "Premises: both queues are created alike, have the same
-- interleaving choice, and are restored at the same time, 1 or later".
unfoldable pub Demand3 : Type 0
Demand3 =
    (a : Arguments) (len : ℕ) (s₁ s₂ : State) (time : ℕ) (i₁ i₂ : List ℕ)
    → Reached a len s₁ → Reached a len s₂ → (totals_at s₁.words).interleaving ≡ (totals_at s₂.words).interleaving → 1 ≤ time
    → Accepts time i₁ s₁ → Accepts time i₂ s₂
    → (i₁ ≡ i₂) ↔ SameShown (restored time i₁ s₁) (restored time i₂ s₂)
