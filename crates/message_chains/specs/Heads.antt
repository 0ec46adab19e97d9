-- The head of a stream: its test, its going, what that reports. Assumes nothing.
use Rattle.std.specs.Prelude.{ℕ, ◌-◌, List, ltb, eqb}
use Rattle.queue_words.specs.Flags.{pick}
use Rattle.queue_words.specs.Header.{options_at, totals_at, put_totals}
use Rattle.queue_words.specs.Items.{put_next}
use Rattle.queue_words.specs.Streams.{put_stream_words}
use Rattle.queue_words.specs.declared.header.Totals.{Totals}
use Rattle.queue_words.specs.declared.items.Item.{Item}
use Rattle.queue_words.specs.declared.streams.OutgoingStream.{OutgoingStream}
use Rattle.queue_words.specs.declared.streams.PauseState.{PauseState}
use Rattle.payload_store.specs.Dropping.{drop_code_words, drop_payload}
use Rattle.message_chains.specs.Amounts.{rest}
use Rattle.message_chains.specs.Notes.{Notes, low_noted, lifecycle_noted}

-- 16: "an amount would fall below 0 [..], or a place kept in the state lies outside its table".
-- may n bytes go with the message in this place: 0, else 16
unfoldable pub head_code : List ℕ → OutgoingStream → ℕ → ℕ → ℕ → ℕ
head_code ws s place next n =
    pick (ltb (totals_at ws).total n) 16
    (pick (ltb s.buffered_amount n) 16
    (pick (eqb (totals_at ws).waiting 0) 16
    (pick (ltb 1024 next) 16 (drop_code_words ws place))))

-- the totals with one message and n bytes fewer, and a place first among the free ones
abbrev pub without_message : Totals → ℕ → ℕ → Totals
without_message t place n = record {
  interleaving = t.interleaving;
  next_message_id = t.next_message_id;
  total = t.total - n;
  known = t.known;
  waiting = t.waiting - 1;
  free = place;
  used = t.used;
  gaps = t.gaps;
}

-- a message that is gone: its payload dropped, its place first among the free ones
unfoldable pub released : List ℕ → ℕ → ℕ → List ℕ
released ws place n =
    put_totals (put_next (drop_payload ws place) place (totals_at (drop_payload ws place)).free) (without_message (totals_at (drop_payload ws place)) place n)

-- the last place of what is behind a head
unfoldable pub last_behind : ℕ → ℕ → ℕ
last_behind next last = pick (ltb next 1024) last 1024

-- a stream in a state without its head and the head's n bytes
unfoldable pub without_head : OutgoingStream → PauseState → ℕ → ℕ → OutgoingStream
without_head s state next n = record {
  priority = s.priority;
  pause_state = state;
  next_ssn = s.next_ssn;
  next_unordered_mid = s.next_unordered_mid;
  next_ordered_mid = s.next_ordered_mid;
  buffered_amount = s.buffered_amount - n;
  low_threshold = s.low_threshold;
  first = next;
  last = last_behind next s.last;
}

-- "Sending and dropping report total, stream, then 3 and 4 for a drop with an id": n bytes fewer.
unfoldable pub total_notes : List ℕ → List ℕ → ℕ → ℕ → Notes
total_notes ws es k n = low_noted es k 2 0 (options_at ws).total_threshold (totals_at ws).total ((totals_at ws).total - n)

unfoldable pub stream_notes : List ℕ → ℕ → ℕ → OutgoingStream → ℕ → Notes
stream_notes es k id s n = low_noted es k 1 id s.low_threshold s.buffered_amount (s.buffered_amount - n)

unfoldable pub sent_notes : List ℕ → List ℕ → ℕ → ℕ → OutgoingStream → ℕ → Notes
sent_notes ws es k id s n = stream_notes (total_notes ws es k n).events (total_notes ws es k n).count id s n

unfoldable pub drop_notes : List ℕ → List ℕ → ℕ → ℕ → OutgoingStream → ℕ → ℕ → Notes
drop_notes ws es k id s n lifecycle = lifecycle_noted (sent_notes ws es k id s n).events (sent_notes ws es k id s n).count lifecycle

-- the words after the head m of the stream s has gone; the stream is left in a state
unfoldable pub head_dropped : List ℕ → ℕ → OutgoingStream → PauseState → Item → List ℕ
head_dropped ws row s state m = put_stream_words (released ws s.first (rest m)) row (without_head s state m.next (rest m))
