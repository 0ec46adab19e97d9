-- What the calls promise: where the invariant holds, and what they leave alone on any words. Assumes nothing.
use Rattle.std.specs.Prelude.{◌≡◌, List, ℕ, ◌+◌, ◌≤◌, ◌<◌, length}
use Rattle.queue_words.specs.Header.{options_at, totals_at, scheduler_at}
use Rattle.queue_words.specs.Leasts.{leasts_at}
use Rattle.queue_words.specs.Known.{known_at}
use Rattle.queue_words.specs.Streams.{stream_at_words}
use Rattle.queue_words.specs.Items.{item_at, with_place, with_length}
use Rattle.queue_words.specs.Active.{active_at}
use Rattle.payload_store.specs.Words.{used_of, gaps_of, place_of, size_of, with_bytes}
use Rattle.payload_store.specs.Gaps.{gaps}
use Rattle.payload_store.specs.Moving.{Pack}
use Rattle.payload_store.specs.Putting.{Outcome}
use Rattle.payload_store.specs.Good.{payload_of, Lay, GoodPayloads}

-- moved together: every row has its length and its payload, and the payloads lie without a gap
pub record Together (ws st : List ℕ) (t : Pack) : Type 0 where
  pub lay : Lay t.words t.store (gaps (used_of ws) (length st) 0 0)
  pub cursor_is : t.cursor ≡ used_of ws
  pub totals : totals_at t.words ≡ totals_at ws
  pub same : length t.store ≡ length st
  pub sizes : (i : ℕ) → size_of t.words i ≡ size_of ws i
  pub bytes : (i : ℕ) → i < 1024 → 1 ≤ size_of ws i → payload_of t.words t.store i ≡ payload_of ws st i

-- put: row r has the payload bs, every other row has its own
pub record Put (ws st : List ℕ) (r : ℕ) (bs : List ℕ) (o : Outcome) : Type 0 where
  pub accepted : o.answer ≡ 0
  pub good : GoodPayloads o.words o.store
  pub same : length o.store ≡ length st
  pub used : used_of o.words ≡ used_of ws + length bs
  pub new_size : size_of o.words r ≡ length bs
  pub new : payload_of o.words o.store r ≡ bs
  pub sizes : (j : ℕ) → (r ≡ j → ⊥) → size_of o.words j ≡ size_of ws j
  pub others : (j : ℕ) → j < 1024 → (r ≡ j → ⊥) → 1 ≤ size_of ws j → payload_of o.words o.store j ≡ payload_of ws st j

-- dropped: row r has no payload, every other row has its own
pub record Dropped (ws st : List ℕ) (r : ℕ) (ws' : List ℕ) : Type 0 where
  pub good : GoodPayloads ws' st
  pub free : size_of ws' r ≡ 0
  pub used : used_of ws' + size_of ws r ≡ used_of ws
  pub sizes : (j : ℕ) → (r ≡ j → ⊥) → size_of ws' j ≡ size_of ws j
  pub others : (j : ℕ) → (r ≡ j → ⊥) → payload_of ws' st j ≡ payload_of ws st j

-- nothing else is changed: of the messages at most places and lengths, of the totals at most the used bytes and the gaps
pub record Frame (ws ws' : List ℕ) : Type 0 where
  pub long : length ws' ≡ length ws
  pub items : (j : ℕ) → item_at ws' j ≡ with_length (with_place (item_at ws j) (place_of ws' j)) (size_of ws' j)
  pub totals : totals_at ws' ≡ with_bytes (totals_at ws) (used_of ws') (gaps_of ws')
  pub options : options_at ws' ≡ options_at ws
  pub scheduler : scheduler_at ws' ≡ scheduler_at ws
  pub known : (j : ℕ) → j < 256 → known_at ws' j ≡ known_at ws j
  pub streams : (j : ℕ) → j < 256 → stream_at_words ws' j ≡ stream_at_words ws j
  pub active : (j : ℕ) → active_at ws' j ≡ active_at ws j
  pub leasts : leasts_at ws' ≡ leasts_at ws

-- the payload store's part of the words is the same: what the calls of other crates leave
pub record SamePlaces (ws ws' : List ℕ) : Type 0 where
  pub long : length ws' ≡ length ws
  pub places : (i : ℕ) → i < 1024 → place_of ws' i ≡ place_of ws i
  pub sizes : (i : ℕ) → i < 1024 → size_of ws' i ≡ size_of ws i
  pub used : used_of ws' ≡ used_of ws
  pub gaps : gaps_of ws' ≡ gaps_of ws
