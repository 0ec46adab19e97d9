-- The lent list of events. Assumes nothing.
use Rattle.std.specs.Prelude.{ℕ, suc, ◌+◌, ◌*◌, ◌/◌, List, [], ◌∷◌, length, set}
use Rattle.queue_model.specs.Refusals.{event_places}
use Rattle.queue_model.specs.Types.{Event}

-- The words of a place: kind, number and, since document 02, 2/13, the amount: "Kinds 1 and 2 now carry it as a third number, the amount after the fall,
-- stepped as in the
-- Rust, or the raise that fires it; kinds 3 and 4 carry 0."
abbrev pub place_words : ℕ
place_words = 3

-- The words of "2,305 places", which the list must have.
abbrev pub event_words : ℕ
event_words = event_places * place_words

-- The places of a list.
abbrev pub places_in : List ℕ → ℕ
places_in es = length es / place_words

-- The list with an event in place k.
unfoldable pub put_event : List ℕ → ℕ → ℕ → ℕ → ℕ → List ℕ
put_event es k kind number amount = set (set (set es (k * place_words) kind) (k * place_words + 1) number) (k * place_words + 2) amount

-- The list with these events from place k on; places past them are as they were.
unfoldable pub written : List ℕ → ℕ → List Event → List ℕ
unfolding put_event
written es k [] = es
written es k (e ∷ vs) = written (put_event es k e.kind e.number e.amount) (suc k) vs
