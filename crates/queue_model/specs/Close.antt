-- Closing a stream (Rust: prepare_reset_stream). Document 01, "Closing and restarting streams". Assumes nothing.
use Rattle.std.specs.Prelude.{ℕ, ◌-◌, Bool, List, [], ◌∷◌, ◌++◌, eqb}
use Rattle.std.specs.Prelude.{if◌then◌else◌}
use Rattle.queue_model.specs.Table.{find, put, sum_by}
use Rattle.queue_model.specs.Types.{Item, PauseState, not_paused, pending, paused, resetting, Stream, Scheduler, Options, Queue, Event, done, Step, reply, remaining, with_items, model_with_pause, with_state}
use Rattle.queue_model.specs.Scheduler.{remove_stream}
use Rattle.queue_model.specs.Streams.{put_stream, stream_at, too_many, has_items}
use Rattle.queue_model.specs.Refusals.{Check, ◌when◌, checked, places_few, streams_full, short_of}
use Rattle.queue_model.specs.Amounts.{total_falls, stream_falls, lifecycle_events}

-- ------------------------------------------------------------------ what is dropped

-- "It drops every message at offset 0". The offset decides, not whether the message has a MID.
unfoldable pub untouched : Item → Bool
untouched i = eqb i.offset 0

-- The messages that stay.
unfoldable pub kept : List Item → List Item
unfolding untouched
kept [] = []
kept (i ∷ is) = let rest = kept is in if untouched i then rest else i ∷ rest

-- The bytes of a message that closing drops, and of a list of messages.
unfoldable pub dropped_bytes : Item → ℕ
unfolding untouched
dropped_bytes i = if untouched i then remaining i else 0

abbrev pub swept_bytes : List Item → ℕ
swept_bytes is = sum_by (λ (i : Item). dropped_bytes i) is

-- "closing reports stream before total": message by message stream, total, then 3 and 4, from the total t and the stream's amount a on. So an event tells the
-- amount after its own message ("stepped as in the Rust", document 02, 2/13) and not that after the call.
unfoldable pub sweep_item : Options → Stream → Item → ℕ → ℕ → List Event
unfolding untouched stream_falls total_falls lifecycle_events
sweep_item o s i t a = if untouched i then stream_falls s a (remaining i) ++ total_falls o t (remaining i) ++ lifecycle_events i.lifecycle_id else []

unfoldable pub sweep_events : Options → Stream → List Item → ℕ → ℕ → List Event
unfolding sweep_item dropped_bytes
sweep_events o s [] t a = []
sweep_events o s (i ∷ is) t a = sweep_item o s i t a ++ sweep_events o s is (t - dropped_bytes i) (a - dropped_bytes i)

-- ------------------------------------------------------------------ the closed stream

-- "a remaining half-sent one makes the stream pending, none makes it paused".
unfoldable pub closed_state : List Item → PauseState
closed_state [] = paused
closed_state (i ∷ is) = pending

-- "closing to paused ends that", its waiting; a stream without messages did not wait.
unfoldable pub closed_scheduler : Stream → List Item → Scheduler → Scheduler
unfolding has_items remove_stream
closed_scheduler s [] sc = if has_items s then remove_stream s.id sc else sc
closed_scheduler s (i ∷ is) sc = sc

-- An open stream closed. One that is not known is new, so open: it becomes known and paused.
unfoldable pub closed : Queue → Stream → Step
unfolding kept dropped_bytes sweep_events closed_state closed_scheduler put
closed q s =
    let left = kept s.items in
    let n = swept_bytes s.items in
    reply done (sweep_events q.options s s.items q.total s.amount)
    (with_state q (q.total - n) (put_stream (model_with_pause (closed_state left) (with_items s (s.amount - n) left)) q.streams) (closed_scheduler s left q.scheduler))

-- "Closing changes nothing unless the stream is open".
unfoldable pub close_in : PauseState → Queue → Stream → Step
unfolding closed
close_in not_paused q s = closed q s
close_in pending q s = reply done [] q
close_in paused q s = reply done [] q
close_in resetting q s = reply done [] q

-- The bytes that closing a stream in a state drops.
unfoldable pub closing_bytes : PauseState → List Item → ℕ
unfolding dropped_bytes
closing_bytes not_paused is = swept_bytes is
closing_bytes pending is = 0
closing_bytes paused is = 0
closing_bytes resetting is = 0

abbrev pub close_checks : ℕ → ℕ → Queue → List Check
close_checks places k q =
    let s = stream_at q k in
    places_few places ∷ streams_full q k ∷ (16 when short_of q s (closing_bytes s.pause_state s.items)) ∷ []

-- Close a stream; the event list is lent.
unfoldable pub close : ℕ → ℕ → Queue → Step
unfolding checked too_many find short_of closing_bytes close_in
close places k q = let s = close_in (stream_at q k).pause_state q (stream_at q k) in checked (close_checks places k q) q s
