-- A queue that its own calls alone have changed. Assumes nothing.
use Rattle.std.specs.Prelude.{ℕ, ◌<◌, List}
use Rattle.queue_words.specs.Known.{known_at}
use Rattle.queue_state.specs.Good.{Good}

-- The words are a queue's, with some store: of a call that is not lent the store.
pub record OwnWords (ws : List ℕ) : Type 0 where
  pub store : List ℕ
  pub good : Good ws store

-- The first n known streams have rows.
abbrev pub RowsFit : List ℕ → ℕ → Type 0
RowsFit ws n = (i : ℕ) → i < n → (known_at ws i).place < 256
