-- "and it gives back only the number of document 01's list", of saving and of creation, on any words at all; the calls of a queue: queue_runs,
-- specs/Numbers. Assumes nothing.
use Rattle.std.specs.Prelude.{ℕ, ◌≡◌, true, List, [], ◌∷◌, length}
use Rattle.queue_words.specs.Header.{options_at}
use Rattle.queue_streams.specs.Answers.{call_number}
use Rattle.queue_runs.specs.Creation.{Arguments, creation}
use Rattle.queue_runs.specs.Numbers.{among}
use Rattle.queue_runs.specs.Refusals.{call_refused}
use Rattle.queue_runs.specs.Run.{State}
use Rattle.saving.specs.Save.{save_image}
pub use Rattle.saving.specs.Save.{saved_number}
use Rattle.queue_images.specs.Refusals.{saved_refused}

-- A refused saving gives 2, 4, 11 or 16.
abbrev pub SaveRefusalsListed : Type 0
SaveRefusalsListed = (ws st b : List ℕ) (time : ℕ) → saved_refused (save_image ws st b time).answer ≡ true → among (saved_number (save_image ws st b time).answer) (2 ∷ 4 ∷ 11 ∷ 16 ∷ []) ≡ true

-- 2: "The store is [..] not of its creation length later".
abbrev pub SaveOtherStore : Type 0
SaveOtherStore = (ws st b : List ℕ) (time : ℕ) → ((options_at ws).store_length ≡ length st → ⊥) → saved_number (save_image ws st b time).answer ≡ 2

-- A refused creation gives 1 or 2, and leaves the words as they were.
pub record CreateRefused (a : Arguments) (s : State) : Type 0 where
  pub listed : among (call_number (creation a s).answer) (1 ∷ 2 ∷ []) ≡ true
  pub stays : (creation a s).next ≡ s.words

abbrev pub CreateRefusals : Type 0
CreateRefusals = (a : Arguments) (s : State) → call_refused (creation a s).answer ≡ true → CreateRefused a s
