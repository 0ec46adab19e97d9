-- Discarding a message. Assumes nothing.
use Rattle.std.specs.Prelude.{ℕ, List, ltb, eqb, length}
use Rattle.queue_words.specs.Flags.{pick}
use Rattle.queue_words.specs.Find.{find_stream_words}
use Rattle.queue_words.specs.Items.{item_at}
use Rattle.queue_words.specs.Streams.{stream_at_words}
use Rattle.queue_words.specs.declared.known.Found.{Found}
use Rattle.queue_words.specs.declared.known.Found.TheVariants.{At, Gap, Broken}
use Rattle.queue_words.specs.declared.streams.OutgoingStream.{OutgoingStream}
use Rattle.queue_streams.specs.Events.{event_words}
use Rattle.queue_streams.specs.Settings.{CalledWith, called_with}
use Rattle.queue_streams.specs.Call.{Accepted, Refused}
use Rattle.message_chains.specs.Dropping.{dropped_in_state}

-- "Discard acts only on a head with that id."
unfoldable pub discard_in : List ℕ → List ℕ → ℕ → ℕ → ℕ → OutgoingStream → CalledWith
discard_in ws es id message row s =
    pick (ltb 1024 s.first) (called_with (Refused 16) ws es)
    (pick (eqb s.first 1024) (called_with (Accepted 0) ws es)
    (pick (eqb (item_at ws s.first).message_id.0 message) (dropped_in_state ws es 0 id row s (item_at ws s.first))
    (called_with (Accepted 0) ws es)))

abbrev pub discard_found : List ℕ → List ℕ → ℕ → ℕ → Found → CalledWith
discard_found ws es id message (At position row) = discard_in ws es id message row (stream_at_words ws row)
discard_found ws es id message (Gap position) = called_with (Accepted 0) ws es
discard_found ws es id message Broken = called_with (Refused 16) ws es

-- 3: "the event list has fewer than 2,305 places".
unfoldable pub discard : List ℕ → List ℕ → ℕ → ℕ → CalledWith
discard ws es id message =
    pick (ltb (length es) event_words) (called_with (Refused 3) ws es) (discard_found ws es id message (find_stream_words ws id))
