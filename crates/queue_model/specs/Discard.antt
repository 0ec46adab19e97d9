-- Discarding a message (Rust: discard). Assumes nothing.
use Rattle.std.specs.Prelude.{ℕ, List, [], ◌∷◌, eqb}
use Rattle.std.specs.Prelude.{if◌then◌else◌}
use Rattle.queue_model.specs.Table.{find}
use Rattle.queue_model.specs.Types.{Item, Stream, Queue, done, Step, refuse, reply, remaining}
use Rattle.queue_model.specs.Streams.{find_stream}
use Rattle.queue_model.specs.Refusals.{Check, checked, places_few, short_of}
use Rattle.queue_model.specs.Amounts.{drop_head_events}
use Rattle.queue_model.specs.Produce.{Head, no_head, head, head_of, drop_in}

-- The head that is meant is dropped, as an expired one is; 16 where an amount would fall below 0.
unfoldable pub discarded : Queue → Stream → Item → List Item → Step
unfolding short_of drop_head_events drop_in
discarded q s i is = if short_of q s (remaining i) then refuse q 16 else reply done (drop_head_events q s i) (drop_in s.pause_state q s i is)

-- "Discard acts only on a head with that id."
unfoldable pub discard_at : ℕ → Queue → Head → Step
unfolding discarded
discard_at k q no_head = reply done [] q
discard_at k q (head s i is) = if eqb i.message_id k then discarded q s i is else reply done [] q

abbrev pub discard_checks : ℕ → List Check
discard_checks places = places_few places ∷ []

-- Discard the message k of the stream s; the event list is lent.
unfoldable pub discard : ℕ → ℕ → ℕ → Queue → Step
unfolding checked discard_at head_of find
discard places s k q = let d = discard_at k q (head_of (find_stream s q.streams)) in checked (discard_checks places) q d
