-- The queue that words and a store stand for. Assumes nothing.
use Rattle.std.specs.Prelude.{Some, None}
use Rattle.std.specs.Prelude.{ℕ, zero, suc, List, [], ◌∷◌}
use Rattle.std.proofs.Math.Option.{Option, none, some}
use Rattle.queue_model.specs.Types.{PauseState, not_paused, pending, paused, resetting, Stream, Queue}
use Rattle.queue_model.specs.Types as plain
use Rattle.queue_words.specs.Header.{options_at, totals_at}
use Rattle.queue_words.specs.Items.{item_at, ssn_in}
use Rattle.queue_words.specs.Known.{known_at}
use Rattle.queue_words.specs.Streams.{stream_at_words}
use Rattle.queue_words.specs.declared.header.Options.{Options}
use Rattle.queue_words.specs.Items.{Expiry}
use Rattle.queue_words.specs.declared.items.Item.{Item}
use Rattle.queue_words.specs.Items.{Numbers}
use Rattle.queue_words.specs.declared.streams.OutgoingStream.{OutgoingStream}
use Rattle.queue_words.specs.declared.streams.PauseState as words
use Rattle.queue_words.specs.declared.streams.PauseState.TheVariants.{NotPaused, Pending, Paused, Resetting}
use Rattle.payload_store.specs.Good.{payload_of}
use Rattle.stream_scheduler.specs.Link.{model_scheduler}
use Rattle.queue_state.specs.Chains.{chain, each}

-- f 0, f 1, ..: n of them
unfoldable pub tab : {A : Type 0} → (ℕ → A) → ℕ → List A
tab f zero = []
tab f (suc n) = f 0 ∷ tab (λ j. f (suc j)) n

-- ------------------------------------------------------------------ messages

-- the place behind a place
abbrev pub next_of : List ℕ → ℕ → ℕ
next_of ws x = (item_at ws x).next

-- its expiry, and its MID, where it has them
abbrev pub expires_of : Expiry → Option ℕ
expires_of None = none
expires_of (Some t) = some t

abbrev pub mid_of : Numbers → Option ℕ
mid_of None = none
mid_of (Some n) = some n.mid.0

-- a waiting message with its payload
abbrev pub item_of : Item → List ℕ → plain.Item
item_of m bs = record {
  message_id = m.message_id.0;
  ppid = m.ppid;
  unordered = m.unordered;
  max_retransmissions = m.max_retransmissions;
  expires_at = expires_of m.expires_at;
  lifecycle_id = m.lifecycle_id;
  payload = bs;
  offset = m.offset;
  mid = mid_of m.numbers;
  ssn = (ssn_in m.numbers).0;
  fsn = m.fsn.0;
}

-- the message in place x
unfoldable pub item_in_words : List ℕ → List ℕ → ℕ → plain.Item
item_in_words ws st x = item_of (item_at ws x) (payload_of ws st x)

-- ------------------------------------------------------------------ streams

-- "States: open, pending, paused, resetting."
unfoldable pub pause_of : words.PauseState → PauseState
pause_of NotPaused = not_paused
pause_of Pending = pending
pause_of Paused = paused
pause_of Resetting = resetting

-- a known stream with its messages
abbrev pub stream_of : ℕ → OutgoingStream → List plain.Item → Stream
stream_of id s is = record {
  id = id;
  priority = s.priority;
  pause_state = pause_of s.pause_state;
  counters = record { next_ssn = s.next_ssn.0; next_unordered_mid = s.next_unordered_mid.0; next_ordered_mid = s.next_ordered_mid.0 };
  amount = s.buffered_amount;
  threshold = s.low_threshold;
  items = is;
}

-- the row of the known stream in position i
abbrev pub row_at : List ℕ → ℕ → ℕ
row_at ws i = (known_at ws i).place

-- its messages, in order: along its chain, which has at most 1,024 places
unfoldable pub items_at : List ℕ → List ℕ → ℕ → List plain.Item
items_at ws st i = each (item_in_words ws st) (chain (next_of ws) (stream_at_words ws (row_at ws i)).first 1025)

-- the known stream in position i, in the order of ids
unfoldable pub stream_in : List ℕ → List ℕ → ℕ → Stream
stream_in ws st i = stream_of (known_at ws i).id.0 (stream_at_words ws (row_at ws i)) (items_at ws st i)

-- ------------------------------------------------------------------ the queue

abbrev pub options_of : Options → plain.Options
options_of o = record {
  payload_limit = o.payload_limit;
  store_length = o.store_length;
  default_priority = o.default_priority;
  default_threshold = o.default_threshold;
  total_threshold = o.total_threshold;
  handover_with_data = o.handover_with_data;
  strict_restart = o.strict_restart;
}

-- the known streams
unfoldable pub streams_in : List ℕ → List ℕ → List Stream
streams_in ws st = tab (stream_in ws st) (totals_at ws).known

-- the queue
unfoldable pub model : List ℕ → List ℕ → Queue
model ws st = record {
  options = options_of (options_at ws);
  interleaving = (totals_at ws).interleaving;
  total = (totals_at ws).total;
  next_message_id = (totals_at ws).next_message_id.0;
  streams = streams_in ws st;
  scheduler = model_scheduler ws;
}
