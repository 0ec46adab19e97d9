-- What the first pass ensures of words that it finds sound: what writing the image asks for. Assumes nothing.
use Rattle.std.specs.Prelude.{ℕ, ◌+◌, ◌≤◌, ◌<◌, List, [], ◌∷◌}
use Rattle.queue_words.specs.Header.{totals_at}
use Rattle.queue_words.specs.Items.{item_at}
use Rattle.queue_words.specs.Streams.{stream_at_words}
use Rattle.queue_words.specs.declared.items.Item.{Item}
use Rattle.queue_state.specs.Chains.{chain}
use Rattle.queue_state.specs.Model.{next_of, row_at}

-- A message whose payload lies in a store of len bytes, with some of it unsent.
pub record ItemOk (m : Item) (len : ℕ) : Type 0 where
  pub small : m.length ≤ 262144
  pub inside : m.place + m.length ≤ len
  pub unsent : m.offset < m.length

abbrev pub AllOk : List ℕ → ℕ → List ℕ → Type 0
AllOk ws len [] = Unit {0}
AllOk ws len (x ∷ xs) = ItemOk (item_at ws x) len × AllOk ws len xs

-- The places of the messages of the known stream in position i, in queue order.
abbrev pub places_at : List ℕ → ℕ → List ℕ
places_at ws i = chain (next_of ws) (stream_at_words ws (row_at ws i)).first 1025

pub record StreamOk (ws : List ℕ) (len i : ℕ) : Type 0 where
  pub row_in : row_at ws i < 256
  pub items : AllOk ws len (places_at ws i)

pub record Sound (ws : List ℕ) (len : ℕ) : Type 0 where
  pub known_in : (totals_at ws).known ≤ 256
  pub streams : (i : ℕ) → i < (totals_at ws).known → StreamOk ws len i
