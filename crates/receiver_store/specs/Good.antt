-- The invariant of the store. Assumes nothing.
use Rattle.std.specs.Prelude.{◌≡◌, List, [], ◌∷◌, ℕ, ◌+◌, ◌≤◌, length}
use Rattle.queue_model.specs.Table.{sum_by}
use Rattle.receiver_store.specs.Words.{place_of, size_of, used_of, end_of}

-- of the rows xs, newest first: the payload of the first ends at or below e, and those of the older ones at or below its place
abbrev pub Below : List ℕ → ℕ → List ℕ → Type 0
Below ws e [] = Unit {0}
Below ws e (x ∷ xs) = (place_of ws x + size_of ws x ≤ e) × Below ws (place_of ws x) xs

-- the payloads of the held rows, newest first, lie apart in the store, in rising places from the oldest to the newest, below the end of the used part;
-- the used bytes are theirs
pub record Laid (ws st held : List ℕ) : Type 0 where
  pub long : length ws ≡ 83472
  pub end_in : end_of ws ≤ length st
  pub below : Below ws (end_of ws) held
  pub used_is : used_of ws ≡ sum_by (size_of ws) held
