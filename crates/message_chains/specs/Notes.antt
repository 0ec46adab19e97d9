-- Events written one behind the other, on the lent list. Assumes nothing.
use Rattle.std.specs.Prelude.{ℕ, ◌+◌, List, ltb, leb, eqb, length}
use Rattle.queue_words.specs.Flags.{pick}
use Rattle.queue_streams.specs.Events.{event_words, put_event}

-- The list, and the count of the events in it.
pub record Notes : Type 0 where
  pub events : List ℕ
  pub count : ℕ

abbrev pub notes : List ℕ → ℕ → Notes
notes es k = record { events = es; count = k }

-- An event, with its amount, in the next place; a list that is full or too short takes none, and 2,306 says so.
unfoldable pub noted : List ℕ → ℕ → ℕ → ℕ → ℕ → Notes
noted es k kind number amount =
    pick (ltb 2304 k) (notes es 2306)
    (pick (ltb (length es) event_words) (notes es 2306) (notes (put_event es k kind number amount) (k + 1)))

-- "Low fires when an amount goes from above its threshold to at or below it", and tells "the amount after the fall" (document 02, 2/13): this watcher's,
-- after this step.
unfoldable pub low_noted : List ℕ → ℕ → ℕ → ℕ → ℕ → ℕ → ℕ → Notes
low_noted es k kind number threshold old new =
    pick (leb old threshold) (notes es k) (pick (ltb threshold new) (notes es k) (noted es k kind number new))

-- "then 3 and 4 for a drop with an id"; "Lifecycle id 0 means none"; "kinds 3 and 4 carry 0".
unfoldable pub lifecycle_noted : List ℕ → ℕ → ℕ → Notes
lifecycle_noted es k id =
    pick (eqb id 0) (notes es k) (noted (noted es k 3 id 0).events (noted es k 3 id 0).count 4 id 0)
