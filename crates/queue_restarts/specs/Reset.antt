-- The whole-queue reset, on the words. Assumes nothing.
use Rattle.std.specs.Prelude.{None}
use Rattle.std.specs.Prelude.{ℕ, zero, suc, ◌+◌, ◌-◌, Bool, true, false, List, ltb}
use Rattle.queue_words.specs.Flags.{pick}
use Rattle.queue_words.specs.Header.{options_at, totals_at, put_totals}
use Rattle.queue_words.specs.Items.{item_at, put_item}
use Rattle.queue_words.specs.Known.{known_at}
use Rattle.queue_words.specs.Streams.{stream_at_words, put_stream_words}
use Rattle.queue_words.specs.declared.header.Totals.{Totals}
use Rattle.queue_words.specs.declared.items.Item.{Item}
use Rattle.queue_words.specs.declared.streams.OutgoingStream.{OutgoingStream}
use Rattle.queue_words.specs.declared.streams.PauseState.TheVariants.{NotPaused}
use Rattle.queue_streams.specs.Settings.{Called, called}
use Rattle.queue_streams.specs.Waiting.{rescheduled, room_for}
use Rattle.queue_streams.specs.Call.{Accepted, Refused}
use Rattle.message_chains.specs.Amounts.{sum, rest}
use Rattle.queue_restarts.specs.declared.whole.Sum.{Sum}

-- The sent bytes of a head message, which come back; 0 where there is no message.
unfoldable pub put_back : List ℕ → ℕ → ℕ
put_back ws first = pick (ltb 1023 first) 0 ((item_at ws first).length - rest (item_at ws first))

-- ------------------------------------------------------------------ the test

-- 16: "an amount would [..] pass 2^64 - 1": a stream's, or the total.
unfoldable pub sum_stream : OutgoingStream → ℕ → Sum → Sum
sum_stream s back t =
    pick (ltb (18446744073709551615 - s.buffered_amount) back) (record { fits = false; total = t.total })
    (pick (ltb (18446744073709551615 - t.total) back) (record { fits = false; total = t.total })
    (record { fits = t.fits; total = t.total + back }))

-- "or a place kept in the state lies outside its table".
unfoldable pub sum_known : List ℕ → ℕ → Sum → Sum
sum_known ws place t =
    pick (ltb 255 place) (record { fits = false; total = t.total })
    (sum_stream (stream_at_words ws place) (put_back ws (stream_at_words ws place).first) t)

-- The total with what the first n known streams put back.
unfoldable pub sum_all : List ℕ → ℕ → ℕ → Sum
sum_all ws total zero = record { fits = true; total = total }
sum_all ws total (suc i) = sum_known ws (known_at ws i).place (sum_all ws total i)

-- ------------------------------------------------------------------ the writing

-- "Whole-queue reset opens all streams, zeroes their counters": and the amount has the bytes that come back.
unfoldable pub whole_stream : OutgoingStream → ℕ → OutgoingStream
whole_stream s back = record {
  priority = s.priority;
  pause_state = NotPaused;
  next_ssn = record { 0 = 0 };
  next_unordered_mid = record { 0 = 0 };
  next_ordered_mid = record { 0 = 0 };
  buffered_amount = sum s.buffered_amount back;
  low_threshold = s.low_threshold;
  first = s.first;
  last = s.last;
}

-- A message put back whole, by the Rust's rule or the strict one: "keeping its MID, SSN and FSN"; document 02, 6/13: "Strict reset removes the head message's MID and SSN and sets its FSN
-- to 0."
abbrev pub whole_item : Bool → Item → Item
whole_item strict m = record {
  max_retransmissions = m.max_retransmissions;
  unordered = m.unordered;
  message_id = m.message_id;
  ppid = m.ppid;
  numbers = pick strict None m.numbers;
  fsn = pick strict (record { 0 = 0 }) m.fsn;
  expires_at = m.expires_at;
  lifecycle_id = m.lifecycle_id;
  place = m.place;
  length = m.length;
  offset = 0;
  next = m.next;
}

-- "and puts each head message back whole".
unfoldable pub whole_head_words : Bool → List ℕ → ℕ → List ℕ
whole_head_words strict ws first = put_item ws first (whole_item strict (item_at ws first))

-- "every stream with messages then waits".
unfoldable pub reset_in : Bool → List ℕ → Bool → ℕ → ℕ → OutgoingStream → List ℕ
reset_in strict ws il id place s =
    pick (ltb s.first 1024)
    (rescheduled (whole_head_words strict (put_stream_words ws place (whole_stream s (put_back ws s.first))) s.first) il id s.first s.priority)
    (put_stream_words ws place (whole_stream s (put_back ws s.first)))

-- A place outside its table, which the call has ruled out, is passed over.
unfoldable pub reset_at : Bool → List ℕ → Bool → ℕ → ℕ → List ℕ
reset_at strict ws il id place = pick (ltb 255 place) ws (reset_in strict ws il id place (stream_at_words ws place))

unfoldable pub reset_all : Bool → Bool → List ℕ → ℕ → List ℕ
reset_all strict il ws zero = ws
reset_all strict il ws (suc i) = reset_at strict (reset_all strict il ws i) il (known_at (reset_all strict il ws i) i).id.0 (known_at (reset_all strict il ws i) i).place

-- ------------------------------------------------------------------ the call

abbrev pub with_total : Totals → ℕ → Totals
with_total t n = record {
  interleaving = t.interleaving;
  next_message_id = t.next_message_id;
  total = n;
  known = t.known;
  waiting = t.waiting;
  free = t.free;
  used = t.used;
  gaps = t.gaps;
}

-- What the known streams put back, from the total on.
abbrev pub sum_of : List ℕ → Sum
sum_of ws = sum_all ws (totals_at ws).total (totals_at ws).known

-- What is written, with this total.
abbrev pub reset_with : List ℕ → ℕ → List ℕ
reset_with ws total = reset_all (options_at ws).strict_restart (totals_at ws).interleaving (put_totals ws (with_total (totals_at ws) total)) (totals_at ws).known

-- 16 where a place lies outside its table, the scheduler's rows do not suffice, or an amount would pass 2^64 - 1; nothing is then changed.
unfoldable pub reset_queue : List ℕ → Called
reset_queue ws =
    pick (room_for ws true)
    (pick (sum_of ws).fits
    (called (Accepted 0) (reset_with ws (sum_of ws).total))
    (called (Refused 16) ws))
    (called (Refused 16) ws)
