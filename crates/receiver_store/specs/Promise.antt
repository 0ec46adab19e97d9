-- What the calls promise where the payloads of the held rows are laid. Assumes nothing.
use Rattle.std.specs.Prelude.{◌≡◌, List, ◌∷◌, ℕ, ◌+◌, ◌≤◌, ◌<◌, length}
use Rattle.payload_store.specs.Putting.{Outcome}
use Rattle.receiver_model.specs.Lists.{count}
use Rattle.receiver_words.specs.Frames.{Frame}
use Rattle.receiver_store.specs.Words.{size_of, used_of, end_of, payload_of}
use Rattle.receiver_store.specs.Packing.{goal_of}
use Rattle.receiver_store.specs.Good.{Laid}

-- moved together for a payload of n bytes: every held row has its payload; the n bytes have room at the end, and half of those that stay free have it
-- behind them
pub record Packed (ws st held : List ℕ) (n : ℕ) (o : Outcome) : Type 0 where
  pub accepted : o.answer ≡ 0
  pub laid : Laid o.words o.store held
  pub half : end_of o.words ≤ goal_of (used_of ws) (length st) n
  pub roomy : end_of o.words + n ≤ length st
  pub used : used_of o.words ≡ used_of ws
  pub same : length o.store ≡ length st
  pub sizes : (x : ℕ) → x < 4096 → size_of o.words x ≡ size_of ws x
  pub payloads : (x : ℕ) → 0 < count x held → payload_of o.words o.store x ≡ payload_of ws st x
  -- nothing else is changed: the end, and places
  pub frame : Frame ws o.words 5 6 0 1

-- put: row i has the payload bs, every held row has its own
pub record Put (ws st held : List ℕ) (i : ℕ) (bs : List ℕ) (o : Outcome) : Type 0 where
  pub accepted : o.answer ≡ 0
  pub laid : Laid o.words o.store (i ∷ held)
  pub used : used_of o.words ≡ used_of ws + length bs
  pub same : length o.store ≡ length st
  pub new_size : size_of o.words i ≡ length bs
  pub new : payload_of o.words o.store i ≡ bs
  pub sizes : (x : ℕ) → 0 < count x held → size_of o.words x ≡ size_of ws x
  pub payloads : (x : ℕ) → 0 < count x held → payload_of o.words o.store x ≡ payload_of ws st x
  -- nothing else is changed: the used bytes, the end, places and lengths
  pub frame : Frame ws o.words 5 6 0 1

-- dropped: row i's bytes are free, every row has its payload
pub record Dropped (ws st held : List ℕ) (i : ℕ) (ws' : List ℕ) : Type 0 where
  pub laid : Laid ws' st held
  pub used : used_of ws' + size_of ws i ≡ used_of ws
  pub payloads : (x : ℕ) → x < 4096 → payload_of ws' st x ≡ payload_of ws st x
  -- nothing else is changed: the used bytes and the end
  pub frame : Frame ws ws' 5 6 8 8
