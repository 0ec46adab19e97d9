-- Commit, rollback and switching interleaving, on the words. Assumes nothing.
use Rattle.std.specs.Prelude.{ℕ, zero, suc, Bool, true, false, not, List, ltb}
use Rattle.queue_words.specs.Flags.{pick}
use Rattle.queue_words.specs.Header.{totals_at, put_totals}
use Rattle.queue_words.specs.Known.{known_at, known_count}
use Rattle.queue_words.specs.Streams.{is_resetting_words, stream_at_words, put_stream_words, with_pause}
use Rattle.queue_words.specs.declared.header.Totals.{Totals}
use Rattle.queue_words.specs.declared.known.Known.{Known}
use Rattle.queue_words.specs.declared.streams.OutgoingStream.{OutgoingStream}
use Rattle.queue_words.specs.declared.streams.PauseState.TheVariants.{NotPaused}
use Rattle.queue_streams.specs.Settings.{Called, called}
use Rattle.queue_streams.specs.Waiting.{rescheduled, room_for}
use Rattle.queue_streams.specs.Call.{Accepted, Refused}

-- "For every resetting stream, commit sets the three counters to 0 and opens, and rollback opens".
abbrev pub opened : Bool → OutgoingStream → OutgoingStream
opened true s = record {
  priority = s.priority;
  pause_state = NotPaused;
  next_ssn = record { 0 = 0 };
  next_unordered_mid = record { 0 = 0 };
  next_ordered_mid = record { 0 = 0 };
  buffered_amount = s.buffered_amount;
  low_threshold = s.low_threshold;
  first = s.first;
  last = s.last;
}
opened false s = with_pause s NotPaused

-- A resetting stream opened; "both let a stream with messages wait".
unfoldable pub reopened_in : Bool → Bool → List ℕ → ℕ → ℕ → OutgoingStream → List ℕ
reopened_in zeroed il ws id place s =
    pick (is_resetting_words s.pause_state)
    (pick (ltb s.first 1024) (rescheduled (put_stream_words ws place (opened zeroed s)) il id s.first s.priority) (put_stream_words ws place (opened zeroed s)))
    ws

-- The known stream at position i; a place outside its table, which the call has ruled out, is passed over.
unfoldable pub reopened_at : Bool → Bool → List ℕ → Known → List ℕ
reopened_at zeroed il ws k = pick (ltb 255 k.place) ws (reopened_in zeroed il ws k.id.0 k.place (stream_at_words ws k.place))

unfoldable pub reopened_all : Bool → Bool → List ℕ → ℕ → List ℕ
reopened_all zeroed il ws zero = ws
reopened_all zeroed il ws (suc i) = reopened_at zeroed il (reopened_all zeroed il ws i) (known_at (reopened_all zeroed il ws i) i)

-- 16 where a place lies outside its table, or the rows do not suffice.
unfoldable pub reopen : Bool → List ℕ → Called
reopen zeroed ws = pick (room_for ws false) (called (Accepted 0) (reopened_all zeroed (totals_at ws).interleaving ws (known_count ws))) (called (Refused 16) ws)

-- ------------------------------------------------------------------ interleaving

abbrev pub with_interleaving : Totals → Bool → Totals
with_interleaving t b = record {
  interleaving = b;
  next_message_id = t.next_message_id;
  total = t.total;
  known = t.known;
  waiting = t.waiting;
  free = t.free;
  used = t.used;
  gaps = t.gaps;
}

unfoldable pub switched_at : Bool → List ℕ → Known → List ℕ
switched_at il ws k =
    pick (ltb 255 k.place) ws (rescheduled ws il k.id.0 (stream_at_words ws k.place).first (stream_at_words ws k.place).priority)

unfoldable pub switched_all : Bool → List ℕ → ℕ → List ℕ
switched_all il ws zero = ws
switched_all il ws (suc i) = switched_at il (switched_all il ws i) (known_at (switched_all il ws i) i)

unfoldable pub alike : Bool → Bool → Bool
alike a b = pick a b (not b)

-- "setting the choice it has changes nothing"; else every stream's weight is read, and one without messages stops waiting.
unfoldable pub set_interleaving_words : Bool → List ℕ → Called
set_interleaving_words b ws =
    pick (alike b (totals_at ws).interleaving) (called (Accepted 0) ws)
    (pick (room_for ws true) (called (Accepted 0) (switched_all b (put_totals ws (with_interleaving (totals_at ws) b)) (known_count ws))) (called (Refused 16) ws))
