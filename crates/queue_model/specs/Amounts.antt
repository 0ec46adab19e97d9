-- Amounts that fall, and the events that this fires. Document 01, "Amounts and events". Assumes nothing.
use Rattle.std.specs.Prelude.{ℕ, zero, suc, ◌-◌, ◌&&◌, List, [], ◌∷◌, ◌++◌, ltb, leb}
use Rattle.std.specs.Prelude.{if◌then◌else◌}
use Rattle.queue_model.specs.Types.{Item, Stream, Options, Queue, Event, remaining}

-- "Low fires when an amount goes from above its threshold to at or below it" (Rust: SubAssign of ThresholdWatcher), and tells the new amount: "the
-- amount after the fall"
-- (document 02, 2/13).
unfoldable pub low_event : ℕ → ℕ → ℕ → ℕ → ℕ → List Event
low_event kind n threshold old new = if ltb threshold old && leb new threshold then record { kind = kind; number = n; amount = new } ∷ [] else []

-- Kind 2, "total low (0)", when the total t falls by n bytes; and kind 1, "stream low (stream id)", when a stream's amount a does. Each tells its own amount.
unfoldable pub total_falls : Options → ℕ → ℕ → List Event
unfolding low_event
total_falls o t n = low_event 2 0 o.total_threshold t (t - n)

unfoldable pub stream_falls : Stream → ℕ → ℕ → List Event
unfolding low_event
stream_falls s a n = low_event 1 s.id s.threshold a (a - n)

-- The same of the queue's total and the stream's amount as they are.
unfoldable pub total_low : Queue → ℕ → List Event
unfolding total_falls
total_low q n = total_falls q.options q.total n

unfoldable pub stream_low : Stream → ℕ → List Event
unfolding stream_falls
stream_low s n = stream_falls s s.amount n

-- "then 3 and 4 for a drop with an id" (Rust: add_lifecycle_events); "kinds 3 and 4 carry 0" (document 02, 2/13).
unfoldable pub lifecycle_events : ℕ → List Event
lifecycle_events zero = []
lifecycle_events (suc n) = record { kind = 3; number = suc n; amount = 0 } ∷ record { kind = 4; number = suc n; amount = 0 } ∷ []

-- "Sending and dropping report total, stream, then 3 and 4 for a drop with an id": n bytes sent, and a head dropped.
unfoldable pub sent_events : Queue → Stream → ℕ → List Event
unfolding total_low stream_low
sent_events q s n = total_low q n ++ stream_low s n

unfoldable pub drop_head_events : Queue → Stream → Item → List Event
unfolding total_low stream_low lifecycle_events
drop_head_events q s i = total_low q (remaining i) ++ stream_low s (remaining i) ++ lifecycle_events i.lifecycle_id
