-- Setting a stream's threshold, a stream's priority, and interleaving. Assumes nothing.
use Rattle.std.specs.Prelude.{ℕ, Bool, true, ◌&&◌, List, [], ◌∷◌, ltb, leb}
use Rattle.std.specs.Prelude.{if◌then◌else◌}
use Rattle.queue_model.specs.Logic.{same_bool}
use Rattle.queue_model.specs.Table.{find, put}
use Rattle.queue_model.specs.Types.{Stream, Queue, Event, done, Step, reply, with_priority, with_threshold}
use Rattle.queue_model.specs.Streams.{stream_at, too_many, know, reschedule_each}
use Rattle.queue_model.specs.Refusals.{Check, checked, places_few, streams_full}

-- "also when a threshold below the amount is raised to or past it" (Rust: set_low_threshold); it tells the amount, which "the raise that fires it"
-- leaves as it is
-- (document 02, 2/13).
unfoldable pub raised_event : Stream → ℕ → List Event
raised_event s t = if ltb s.threshold s.amount && leb s.amount t then record { kind = 1; number = s.id; amount = s.amount } ∷ [] else []

abbrev pub threshold_checks : ℕ → ℕ → Queue → List Check
threshold_checks places k q = places_few places ∷ streams_full q k ∷ []

-- Set a stream's threshold; the event list is lent (Rust: set_buffered_amount_low_threshold).
unfoldable pub set_threshold : ℕ → ℕ → ℕ → Queue → Step
unfolding checked too_many find raised_event put
set_threshold places k t q =
    let s = stream_at q k in
    checked (threshold_checks places k q) q (reply done (raised_event s t) (know q (with_threshold t s)))

abbrev pub priority_checks : ℕ → Queue → List Check
priority_checks k q = streams_full q k ∷ []

-- Set a stream's priority: "a priority set in between waits for that", the next time a weight is read; so the scheduler stays as it is (Rust: set_priority).
unfoldable pub set_priority : ℕ → ℕ → Queue → Step
unfolding checked too_many find put
set_priority k p q = checked (priority_checks k q) q (reply done [] (know q (with_priority p (stream_at q k))))

-- The queue with another interleaving choice: every stream's weight is read ("or interleaving switch"), a stream without messages stops waiting, and "switching
-- interleaving ... schedules a paused stream".
unfoldable pub switched : Bool → Queue → Queue
unfolding reschedule_each
switched b q = record { options = q.options; interleaving = b; total = q.total; next_message_id = q.next_message_id; streams = q.streams; scheduler = reschedule_each b (λ s. true) q.streams q.scheduler }

-- "setting the choice it has changes nothing" (Rust: enable_message_interleaving).
unfoldable pub set_interleaving : Bool → Queue → Step
unfolding same_bool switched
set_interleaving b q = reply done [] (if same_bool b q.interleaving then q else switched b q)
