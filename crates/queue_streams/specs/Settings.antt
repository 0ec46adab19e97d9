-- Setting a stream's priority and its threshold, on the words. Assumes nothing.
use Rattle.std.specs.Prelude.{ℕ, Bool, ◌&&◌, List, ltb, leb, length}
use Rattle.queue_words.specs.Flags.{pick}
use Rattle.queue_words.specs.Header.{options_at}
use Rattle.queue_words.specs.Streams.{stream_at_words, put_stream_words}
use Rattle.queue_words.specs.declared.streams.OutgoingStream.{OutgoingStream}
use Rattle.queue_streams.specs.Events.{event_words, put_event}
use Rattle.queue_streams.specs.Known.{new_stream_words, look_up, inserted}
use Rattle.queue_streams.specs.Call.{Call}
use Rattle.queue_streams.specs.Call.{Accepted, Refused}
use Rattle.queue_streams.specs.Place.{Place}
use Rattle.queue_streams.specs.Place as place

-- What a call leaves: its answer and the words; with a lent list of events, that too.
pub record Called : Type 0 where
  pub answer : Call
  pub next : List ℕ

abbrev pub called : Call → List ℕ → Called
called a ws = record { answer = a; next = ws }

pub record CalledWith : Type 0 where
  pub answer : Call
  pub next : List ℕ
  pub events : List ℕ

abbrev pub called_with : Call → List ℕ → List ℕ → CalledWith
called_with a ws es = record { answer = a; next = ws; events = es }

abbrev pub with_priority_words : OutgoingStream → ℕ → OutgoingStream
with_priority_words s p = record {
  priority = p;
  pause_state = s.pause_state;
  next_ssn = s.next_ssn;
  next_unordered_mid = s.next_unordered_mid;
  next_ordered_mid = s.next_ordered_mid;
  buffered_amount = s.buffered_amount;
  low_threshold = s.low_threshold;
  first = s.first;
  last = s.last;
}

abbrev pub with_threshold_words : OutgoingStream → ℕ → OutgoingStream
with_threshold_words s t = record {
  priority = s.priority;
  pause_state = s.pause_state;
  next_ssn = s.next_ssn;
  next_unordered_mid = s.next_unordered_mid;
  next_ordered_mid = s.next_ordered_mid;
  buffered_amount = s.buffered_amount;
  low_threshold = t;
  first = s.first;
  last = s.last;
}

-- A stream's row set, or the stream made known with it.
abbrev pub priority_in : List ℕ → ℕ → ℕ → Place → Called
priority_in ws id p (place.Row row) = called (Accepted 0) (put_stream_words ws row (with_priority_words (stream_at_words ws row) p))
priority_in ws id p (place.New position) = called (Accepted 0) (inserted ws position id (with_priority_words (new_stream_words (options_at ws)) p))
priority_in ws id p (place.Refused n) = called (Refused n) ws

-- "a priority set in between waits for that": no row of the scheduler changes.
unfoldable pub set_priority_words : List ℕ → ℕ → ℕ → Called
set_priority_words ws id p = priority_in ws id p (look_up ws id)

-- "also when a threshold below the amount is raised to or past it"
abbrev pub raised : ℕ → ℕ → ℕ → Bool
raised amount old new = ltb old amount && leb amount new

-- The event of a stream whose threshold is raised so: kind 1, with the amount at "the raise that fires it" (document 02, 2/13).
abbrev pub threshold_at : List ℕ → List ℕ → ℕ → ℕ → ℕ → OutgoingStream → CalledWith
threshold_at ws es id t row s =
    pick (raised s.buffered_amount s.low_threshold t)
    (called_with (Accepted 1) (put_stream_words ws row (with_threshold_words s t)) (put_event es 0 1 id s.buffered_amount))
    (called_with (Accepted 0) (put_stream_words ws row (with_threshold_words s t)) es)

-- A new stream's amount is 0, so no threshold is below it.
abbrev pub threshold_in : List ℕ → List ℕ → ℕ → ℕ → Place → CalledWith
threshold_in ws es id t (place.Row row) = threshold_at ws es id t row (stream_at_words ws row)
threshold_in ws es id t (place.New position) = called_with (Accepted 0) (inserted ws position id (with_threshold_words (new_stream_words (options_at ws)) t)) es
threshold_in ws es id t (place.Refused n) = called_with (Refused n) ws es

-- 3: "the event list has fewer than 2,305 places".
unfoldable pub set_threshold_words : List ℕ → List ℕ → ℕ → ℕ → CalledWith
set_threshold_words ws es id t = pick (ltb (length es) event_words) (called_with (Refused 3) ws es) (threshold_in ws es id t (look_up ws id))
