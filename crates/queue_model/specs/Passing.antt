-- The expired heads that a next fragment passes over. Assumes nothing.
use Rattle.std.specs.Prelude.{ℕ, zero, suc, List, [], ◌∷◌}
use Rattle.queue_model.specs.Types.{Queue}
use Rattle.queue_model.specs.Produce.{Look, nothing, broken, dropped, chosen, look}

-- A queue whose choice a look drops, and those after it.
unfoldable pub passing_after : Queue → (Queue → List Queue) → Look → List Queue
passing_after q more nothing = []
passing_after q more broken = []
passing_after q more (dropped r es) = q ∷ more r
passing_after q more (chosen a s i is) = []

-- "An expired head of the chosen stream is dropped, half-sent or not, and the choice begins again": the queue at each choice that is dropped, in order,
-- in at most so many turns. Which stream it
-- is (`peek`: "the stream in mid-message if one is remembered", by document 02's 10/13 from restoring on, "else the smallest finish time, then the
-- smallest id") is the scheduler's choice, and no
-- answer need show it: an expiry is an event only where there is a lifecycle id.
unfoldable pub passing : ℕ → ℕ → Queue → List Queue
unfolding look passing_after
passing zero now q = []
passing (suc turns) now q = passing_after q (λ (r : Queue). passing turns now r) (look now q)
