-- When words and a store are those of a queue: the representation invariant. Assumes nothing.
use Rattle.std.specs.Prelude.{ℕ, ◌≤◌, ◌<◌, ◌≡◌, List, [], length}
use Rattle.queue_words.specs.Header.{options_at, totals_at}
use Rattle.queue_words.specs.Known.{RisingKnown}
use Rattle.queue_words.specs.Streams.{stream_at_words}
use Rattle.queue_words.specs.declared.streams.OutgoingStream.{OutgoingStream}
use Rattle.payload_store.specs.Words.{size_of, used_of}
use Rattle.payload_store.specs.Good as payload
use Rattle.stream_scheduler.specs.Link.{GoodScheduler}
use Rattle.queue_model.specs.Well.{Well}
use Rattle.queue_state.specs.Chains.{Linked, last_of, count, sum_of, total, Split}
use Rattle.queue_state.specs.Model.{next_of, row_at, model}

-- A stream's row says where its messages are: first, then by the next places to the last.
pub record Row (ws : List ℕ) (s : OutgoingStream) (ps : List ℕ) : Type 0 where
  pub linked : Linked (next_of ws) s.first ps
  pub last_is : s.last ≡ last_of 1024 ps

-- The words hold together. q: the places of the messages of each known stream, by its position; fr: the free places.
pub record Shape (ws st : List ℕ) : Type 0 where
  pub q : ℕ → List ℕ
  pub fr : List ℕ
  pub long : length ws ≡ 20768
  -- the known streams: few, their ids rise, and each has a row of its own
  pub known_fits : (totals_at ws).known ≤ 256
  pub rising : RisingKnown ws
  pub inside : (i : ℕ) → i < (totals_at ws).known → row_at ws i < (totals_at ws).known
  pub unlike : (i j : ℕ) → i < (totals_at ws).known → j < (totals_at ws).known → row_at ws i ≡ row_at ws j → i ≡ j
  -- each of the 1,024 places is in one chain, or free, once
  pub split : Split q fr
  pub free : Linked (next_of ws) (totals_at ws).free fr
  pub rows : (i : ℕ) → i < (totals_at ws).known → Row ws (stream_at_words ws (row_at ws i)) (q i)
  pub rest : (i : ℕ) → (totals_at ws).known ≤ i → q i ≡ []
  -- a message that waits has a payload, a free place has none
  pub full : (i x : ℕ) → 1 ≤ count x (q i) → 1 ≤ size_of ws x
  pub bare : (x : ℕ) → 1 ≤ count x fr → size_of ws x ≡ 0
  -- the counts are the sums
  pub waits : (totals_at ws).waiting ≡ total length q
  pub used : used_of ws ≡ total (sum_of (size_of ws)) q
  -- the payloads lie in the store apart from each other; the scheduler's rows are of different streams
  pub lay : payload.GoodPayloads ws st
  pub schedules : GoodScheduler ws

-- They stand for a queue of document 01: its amounts are sums, its numbers have their widths, its limits hold.
pub record Good (ws st : List ℕ) : Type 0 where
  pub shape : Shape ws st
  pub store_is : length st ≡ (options_at ws).store_length
  pub well : Well (model ws st)
