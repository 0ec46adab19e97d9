-- The answers of discarding and closing, as the checked calls say them, and what they ask for below. Assumes nothing.
use Rattle.std.specs.Prelude.{ℕ, ◌<◌, ◌≤◌, ◌≡◌, true, List, Result, Ok, Err}
use Rattle.types.specs.Refusal.{refusal_number}
use Rattle.types.specs.declared.refusal.Refusal.{Refusal}
use Rattle.types.specs.declared.refusal.Refusal.TheVariants as refusal
use Rattle.queue_words.specs.Items.{item_at}
use Rattle.queue_words.specs.Streams.{stream_at_words}
use Rattle.queue_words.specs.declared.streams.OutgoingStream.{OutgoingStream}
use Rattle.stream_scheduler.specs.Words.{remove_stream_words}
use Rattle.queue_streams.specs.Call.{Call}
use Rattle.queue_streams.specs.Call.{Accepted, Refused}
use Rattle.message_chains.specs.Dropping.{MayDrop}
use Rattle.queue_closing.specs.Walk.{may_sweep}
use Rattle.owned_closing.specs.declared.refusals.EventListShort.{EventListShort}
use Rattle.owned_closing.specs.declared.refusals.ClosingRefusal.{ClosingRefusal}
use Rattle.owned_closing.specs.declared.refusals.ClosingRefusal.TheVariants as closing

-- 3: "On next fragment, discard, close or setting a threshold, the event list has fewer than 2,305 places."
abbrev pub discarded_as : Result ℕ EventListShort → Call
discarded_as (Ok k) = Accepted k
discarded_as (Err e) = Refused 3

-- The stream has a row and a first place of its table or none, and its head, if it is meant, may be dropped.
pub record MayDiscard (ws : List ℕ) (id message row : ℕ) : Type 0 where
  pub row_fits : row < 256
  pub first_fits : (stream_at_words ws row).first ≤ 1024
  pub goes : (stream_at_words ws row).first < 1024 → (item_at ws (stream_at_words ws row).first).message_id.0 ≡ message → MayDrop ws id row

-- 3 as for discarding; 6: "The call would make a 257th known stream."
abbrev pub closing_refusal : ClosingRefusal → Refusal
closing_refusal closing.EventListShort = refusal.EventListShort
closing_refusal closing.StreamsFull = refusal.StreamsFull

abbrev pub closing_as : Result ℕ ClosingRefusal → Call
closing_as (Ok k) = Accepted k
closing_as (Err e) = Refused (refusal_number (closing_refusal e))

-- The tests of closing an open stream say that it may be closed: 16 is not given. Of a half-sent head the messages behind it may go, of a whole one all; the scheduler ends its waiting.
pub record MayClose (ws : List ℕ) (id row : ℕ) (s : OutgoingStream) : Type 0 where
  pub row_fits : row < 256
  pub first_fits : s.first ≤ 1024
  pub behind : s.first < 1024 → 0 < (item_at ws s.first).offset → may_sweep ws (item_at ws s.first).next s.buffered_amount ≡ true
  pub whole : s.first < 1024 → (item_at ws s.first).offset ≤ 0 → may_sweep ws s.first s.buffered_amount ≡ true
  pub ended : (remove_stream_words ws id).done ≡ true
