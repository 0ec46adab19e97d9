-- The search for a stream among the known, by halving: the first position whose id is not below the one sought. Assumes nothing.
use Rattle.std.specs.Prelude.{ℕ, zero, suc, ◌+◌, ◌-◌, ◌/◌, ◌≡◌, Bool, true, false, List, ltb, eqb}
use Rattle.queue_words.specs.Flags.{pick}
use Rattle.queue_words.specs.Known.{known_at, id_at, known_count}
use Rattle.queue_words.specs.declared.known.Probe.{Probe}
use Rattle.queue_words.specs.declared.known.Found.{Found}
use Rattle.queue_words.specs.declared.known.Found.TheVariants.{At, Gap, Broken}
use Rattle.queue_words.specs.declared.known.Spot.{Spot}
use Rattle.queue_words.specs.declared.known.Spot.TheVariants as spot

-- one step: the middle one of the positions left is looked at
unfoldable pub probed : List ℕ → ℕ → Probe → Probe
probed ws id p =
    pick (ltb (id_at ws (p.low + p.size / 2)) id)
    (record { low = p.low + p.size / 2 + 1; size = p.size - p.size / 2 - 1 })
    (record { low = p.low; size = p.size / 2 })

-- the search among n positions before its first step
abbrev pub all : ℕ → Probe
all n = record { low = 0; size = n }

-- steps until no position is left, at most k
unfoldable pub probes : List ℕ → ℕ → ℕ → Probe → Probe
probes ws id zero p = p
probes ws id (suc k) p = pick (eqb p.size 0) p (probes ws id k (probed ws id p))

-- what stands at a position
abbrev pub found_at : List ℕ → ℕ → ℕ → Found
found_at ws id p =
    pick (ltb p (known_count ws))
    (pick (eqb (id_at ws p) id) (pick (ltb 255 (known_at ws p).place) Broken (At p (known_at ws p).place)) (Gap p))
    (Gap p)

-- where the stream with an id is among the known, if they have rows; among n positions n steps are enough
abbrev pub found_among : List ℕ → ℕ → Found
found_among ws id = found_at ws id (probes ws id (known_count ws) (all (known_count ws))).low

-- where the stream with an id is
unfoldable pub find_stream_words : List ℕ → ℕ → Found
find_stream_words ws id = pick (ltb 256 (known_count ws)) Broken (found_among ws id)

-- ---- the search without its tests

-- what a spot is once its place has been tested
abbrev pub place_tested : Spot → Found
place_tested (spot.At p q) = pick (ltb 255 q) Broken (At p q)
place_tested (spot.Gap p) = Gap p

-- what a spot is where the tests cannot fail
abbrev pub found_by : Spot → Found
found_by (spot.At p q) = At p q
found_by (spot.Gap p) = Gap p

-- the tests cannot fail
abbrev pub Findable : List ℕ → ℕ → Type 0
Findable ws id = find_stream_words ws id ≡ Broken → ⊥

-- ---- the search for a stream that is known

-- the position at which it ends
abbrev pub position_of : List ℕ → ℕ → ℕ
position_of ws id = (probes ws id (known_count ws) (all (known_count ws))).low

-- whether the stream with an id is known, and has a row
abbrev pub is_found : Found → Bool
is_found (At p q) = true
is_found (Gap p) = false
is_found Broken = false

abbrev pub is_known : List ℕ → ℕ → Bool
is_known ws id = is_found (find_stream_words ws id)
