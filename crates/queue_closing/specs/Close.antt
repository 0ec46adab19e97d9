-- Closing a stream, on the words and the lent list of events. Assumes nothing.
use Rattle.std.specs.Prelude.{ℕ, List, ltb, eqb, length}
use Rattle.queue_words.specs.Flags.{pick}
use Rattle.queue_words.specs.Header.{options_at}
use Rattle.queue_words.specs.Items.{item_at, put_next}
use Rattle.queue_words.specs.Streams.{is_open, stream_at_words, put_stream_words}
use Rattle.queue_words.specs.declared.streams.OutgoingStream.{OutgoingStream}
use Rattle.queue_words.specs.declared.streams.PauseState.{PauseState}
use Rattle.queue_words.specs.declared.streams.PauseState.TheVariants.{Pending, Paused}
use Rattle.stream_scheduler.specs.Words.{remove_stream_words}
use Rattle.queue_streams.specs.Events.{event_words}
use Rattle.queue_streams.specs.Known.{new_stream_words, look_up, inserted}
use Rattle.queue_streams.specs.Settings.{CalledWith, called_with}
use Rattle.queue_streams.specs.Call.{Accepted, Refused}
use Rattle.queue_streams.specs.Place.{Place}
use Rattle.queue_streams.specs.Place as place
use Rattle.queue_closing.specs.Walk.{may_sweep}
use Rattle.queue_closing.specs.Sweep.{Swept, sweep_from}

-- A stream in a state, with this amount and chain.
abbrev pub closed_as : OutgoingStream → PauseState → ℕ → ℕ → ℕ → OutgoingStream
closed_as s state amount first last = record {
  priority = s.priority;
  pause_state = state;
  next_ssn = s.next_ssn;
  next_unordered_mid = s.next_unordered_mid;
  next_ordered_mid = s.next_ordered_mid;
  buffered_amount = amount;
  low_threshold = s.low_threshold;
  first = first;
  last = last;
}

-- "none makes it paused": all messages dropped; "closing to paused ends that", its waiting.
abbrev pub whole_left : Swept → ℕ → OutgoingStream → CalledWith
whole_left x row s = called_with (Accepted x.at.count) (put_stream_words x.next row (closed_as s Paused x.at.amount 1024 1024)) x.events

unfoldable pub close_whole : List ℕ → List ℕ → ℕ → ℕ → OutgoingStream → CalledWith
close_whole ws es id row s =
    pick (may_sweep ws s.first s.buffered_amount)
    (pick (remove_stream_words ws id).done
    (whole_left (sweep_from (remove_stream_words ws id).next es id s.low_threshold s.first s.buffered_amount) row s)
    (called_with (Refused 16) ws es))
    (called_with (Refused 16) ws es)

-- "a remaining half-sent one makes the stream pending": the messages behind it dropped; its waiting stays.
abbrev pub behind_left : Swept → ℕ → OutgoingStream → CalledWith
behind_left x row s =
    called_with (Accepted x.at.count)
    (put_stream_words (put_next x.next s.first 1024) row (closed_as s Pending x.at.amount s.first s.first))
    x.events

unfoldable pub close_behind : List ℕ → List ℕ → ℕ → ℕ → OutgoingStream → ℕ → CalledWith
close_behind ws es id row s next =
    pick (may_sweep ws next s.buffered_amount)
    (behind_left (sweep_from ws es id s.low_threshold next s.buffered_amount) row s)
    (called_with (Refused 16) ws es)

-- An open stream closed: "It drops every message at offset 0; a remaining half-sent one makes the stream pending, none makes it paused."
unfoldable pub close_open_words : List ℕ → List ℕ → ℕ → ℕ → OutgoingStream → CalledWith
close_open_words ws es id row s =
    pick (ltb 1024 s.first) (called_with (Refused 16) ws es)
    (pick (eqb s.first 1024) (called_with (Accepted 0) (put_stream_words ws row (closed_as s Paused s.buffered_amount s.first s.last)) es)
    (pick (ltb 0 (item_at ws s.first).offset) (close_behind ws es id row s (item_at ws s.first).next)
    (close_whole ws es id row s)))

-- "Closing changes nothing unless the stream is open."
unfoldable pub close_in : List ℕ → List ℕ → ℕ → ℕ → CalledWith
close_in ws es id row =
    pick (is_open (stream_at_words ws row).pause_state) (close_open_words ws es id row (stream_at_words ws row)) (called_with (Accepted 0) ws es)

-- A stream that is not known is new, so open and without messages: it becomes known and paused. 6 and 16 are those of looking it up.
abbrev pub paused_new : OutgoingStream → OutgoingStream
paused_new s = closed_as s Paused s.buffered_amount s.first s.last

abbrev pub close_at : List ℕ → List ℕ → ℕ → Place → CalledWith
close_at ws es id (place.Row row) = close_in ws es id row
close_at ws es id (place.New position) = called_with (Accepted 0) (inserted ws position id (paused_new (new_stream_words (options_at ws)))) es
close_at ws es id (place.Refused n) = called_with (Refused n) ws es

-- 3: "the event list has fewer than 2,305 places".
unfoldable pub close : List ℕ → List ℕ → ℕ → CalledWith
close ws es id = pick (ltb (length es) event_words) (called_with (Refused 3) ws es) (close_at ws es id (look_up ws id))
