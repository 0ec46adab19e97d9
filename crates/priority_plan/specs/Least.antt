-- The least set, computed. Assumes nothing.
use Rattle.std.specs.Prelude.{List, [], ◌∷◌, ℕ, suc, ◌+◌, ◌*◌, ◌/◌, min, ltb}
use Rattle.std.specs.Prelude.{if◌then◌else◌}
use Rattle.priority_plan.specs.Works.{PlannedStream, first_entry}

-- "the payload limit is outside 1 to 65,535".
abbrev pub max_limit : ℕ
max_limit = 65535

-- The cost of a first fragment at priority 1: "bytes × 1,000,000 / weight" of "min(remaining, payload limit)" bytes.
abbrev pub byte_cost : ℕ
byte_cost = 1000000

abbrev pub full_cost : ℕ → ℕ → ℕ
full_cost limit size = min size limit * byte_cost

-- Above every finish time: no first fragment costs more than 65,535 bytes at priority 1.
abbrev pub no_bound : ℕ
no_bound = max_limit * byte_cost + 1

-- "the smallest finish time, then the smallest id": what the finish time of a stream must stay below to come before the next one, that is the next
-- finish time, or one more
-- where its own id is the smaller one.
abbrev pub bound_before : ℕ → ℕ → ℕ → ℕ
bound_before id next finish = if ltb id next then suc finish else finish

-- The last stream has no bound.
unfoldable pub bound : ℕ → ℕ → List PlannedStream → List ℕ → ℕ
unfolding first_entry
bound limit id [] ps = no_bound
bound limit id (h ∷ hs) [] = no_bound
bound limit id (h ∷ hs) (p ∷ ps) = bound_before id h.stream_id (first_entry limit h p).finish

-- The least priority with which a first fragment's cost, rounded down, is below a bound.
unfoldable pub least_priority : ℕ → ℕ → ℕ → ℕ
least_priority limit size b = full_cost limit size / b + 1

-- From the last stream to the first, without the upper limit of 65,535.
unfoldable pub least_set : ℕ → List PlannedStream → List ℕ
unfolding bound least_priority
least_set limit [] = []
least_set limit (h ∷ hs) = let ps = least_set limit hs in least_priority limit h.size (bound limit h.stream_id hs ps) ∷ ps
