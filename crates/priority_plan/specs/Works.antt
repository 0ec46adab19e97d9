-- Which priorities work, and which of them are the least. Assumes nothing.
use Rattle.std.specs.Prelude.{◌≡◌, true, List, [], ◌∷◌, ℕ, ◌≤◌, length}
use Rattle.queue_model.specs.Types.{weighted, Active}
use Rattle.queue_model.specs.Scheduler.{scheduled, comes_before}
pub use Rattle.queue_model.specs.Unbroken.{All}

-- ------------------------------------------------------------------ the list

-- A stream of the list: its id and its first message's size.
pub record PlannedStream : Type 0 where
  pub stream_id : ℕ
  pub size : ℕ

-- "the stream ids in that order and each first message's size".
unfoldable pub planned_streams : List ℕ → List ℕ → List PlannedStream
planned_streams [] [] = []
planned_streams [] (n ∷ ns) = []
planned_streams (i ∷ is) [] = []
planned_streams (i ∷ is) (n ∷ ns) = record { stream_id = i; size = n } ∷ planned_streams is ns

-- ------------------------------------------------------------------ the order

-- What the scheduler lists of a stream whose first message is added to a new interleaving queue: "A stream that begins waiting starts at the system
-- time", which is 0
-- until a first fragment is handed out.
unfoldable pub first_entry : ℕ → PlannedStream → ℕ → Active
unfolding scheduled
first_entry limit h p = scheduled limit h.stream_id (weighted p) 0 h.size

-- The entries of all streams, each with its priority.
unfoldable pub entries : ℕ → List PlannedStream → List ℕ → List Active
unfolding first_entry
entries limit [] [] = []
entries limit [] (p ∷ ps) = []
entries limit (h ∷ hs) [] = []
entries limit (h ∷ hs) (p ∷ ps) = first_entry limit h p ∷ entries limit hs ps

-- "the scheduler's finish times and ids put those first fragments in that order": each entry comes before all that stand behind it.
abbrev pub InOrder : List Active → Type 0
InOrder [] = Unit {0}
InOrder (a ∷ as') = All (λ (b : Active). comes_before a b ≡ true) as' × InOrder as'

-- ------------------------------------------------------------------ the priorities

-- "priorities from 1 to 65,535".
abbrev pub max_priority : ℕ
max_priority = 65535

abbrev pub IsPriority : ℕ → Type 0
IsPriority p = (1 ≤ p) × (p ≤ max_priority)

-- A set of priorities, one for each stream, that works.
pub record Works (limit : ℕ) (hs : List PlannedStream) (ps : List ℕ) : Type 0 where
  pub count : length ps ≡ length hs
  pub allowed : All IsPriority ps
  pub order : InOrder (entries limit hs ps)

-- One set of priorities is at most another, stream by stream.
abbrev pub AtMostEach : List ℕ → List ℕ → Type 0
AtMostEach [] qs = Unit {0}
AtMostEach (p ∷ ps) [] = ⊥
AtMostEach (p ∷ ps) (q ∷ qs) = (p ≤ q) × AtMostEach ps qs

-- "Each priority is the least that any working set has for that stream."
pub record LeastSet (limit : ℕ) (hs : List PlannedStream) (ps : List ℕ) : Type 0 where
  pub works : Works limit hs ps
  pub least : (qs : List ℕ) → Works limit hs qs → AtMostEach ps qs
