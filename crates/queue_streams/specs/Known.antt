-- Where a stream is, and making one known. Assumes nothing.
use Rattle.std.specs.Prelude.{ℕ, zero, suc, ◌+◌, ◌-◌, List, ltb, Result, Ok, Err}
use Rattle.queue_words.specs.Flags.{pick}
use Rattle.queue_words.specs.Find.{find_stream_words}
use Rattle.queue_words.specs.Header.{totals_at, put_totals}
use Rattle.queue_words.specs.Known.{known_at, put_known, known_count}
use Rattle.queue_words.specs.Streams.{put_stream_words}
use Rattle.queue_words.specs.declared.header.Options.{Options}
use Rattle.queue_words.specs.declared.header.Totals.{Totals}
use Rattle.queue_words.specs.declared.known.Found.{Found}
use Rattle.queue_words.specs.declared.known.Found.TheVariants.{At, Gap, Broken}
use Rattle.queue_words.specs.declared.streams.OutgoingStream.{OutgoingStream}
use Rattle.queue_words.specs.declared.streams.PauseState.TheVariants.{NotPaused}
use Rattle.types.specs.Refusal.{refusal_number}
use Rattle.types.specs.declared.refusal.Refusal.{Refusal}
use Rattle.queue_streams.specs.Place.{Place}
use Rattle.queue_streams.specs.Place.{Row, New, Refused}
use Rattle.queue_streams.specs.declared.known.Place as seat
use Rattle.queue_streams.specs.declared.known.Place.TheVariants as seat_is

-- A new stream: open, no messages, the default priority and threshold (Rust: make_stream).
abbrev pub new_stream_words : Options → OutgoingStream
new_stream_words o = record {
  priority = o.default_priority;
  pause_state = NotPaused;
  next_ssn = record { 0 = 0 };
  next_unordered_mid = record { 0 = 0 };
  next_ordered_mid = record { 0 = 0 };
  buffered_amount = 0;
  low_threshold = o.default_threshold;
  first = 1024;
  last = 1024;
}

-- What the code answers, with the numbers of document 01: a place, or a refusal.
abbrev pub placed : seat.Place → Place
placed (seat_is.Row row) = Row row
placed (seat_is.New position) = New position

abbrev pub as_place : Result seat.Place Refusal → Place
as_place (Ok p) = placed p
as_place (Err r) = Refused (refusal_number r)

-- 6: "The call would make a 257th known stream." 16: "or a place kept in the state lies outside its table."
abbrev pub place_of : List ℕ → Found → Place
place_of ws (At position row) = Row row
place_of ws (Gap position) = pick (ltb 255 (known_count ws)) (Refused 6) (New position)
place_of ws Broken = Refused 16

unfoldable pub look_up : List ℕ → ℕ → Place
look_up ws id = place_of ws (find_stream_words ws id)

-- The words after k of n rows have moved up by one, the last first.
unfoldable pub shifted : List ℕ → ℕ → ℕ → List ℕ
shifted ws n zero = ws
shifted ws n (suc k) = put_known (shifted ws n k) (n - k) (known_at (shifted ws n k) (n - k - 1))

abbrev pub with_known : Totals → ℕ → Totals
with_known t n = record {
  interleaving = t.interleaving;
  next_message_id = t.next_message_id;
  total = t.total;
  known = n;
  waiting = t.waiting;
  free = t.free;
  used = t.used;
  gaps = t.gaps;
}

-- A stream made known at a position in the order of ids; its row is the first that no stream has.
unfoldable pub inserted : List ℕ → ℕ → ℕ → OutgoingStream → List ℕ
unfolding shifted
inserted ws position id s =
    let n = known_count ws in
    put_totals (put_stream_words (put_known (shifted ws n (n - position)) position (record { id = record { 0 = id }; place = n })) n s) (with_known (totals_at ws) (n + 1))
