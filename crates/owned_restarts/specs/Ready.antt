-- The ready ids, as the checked call says them; it is never refused. Assumes nothing.
use Rattle.std.specs.Prelude.{ℕ, ◌≤◌, ◌<◌, ◌≡◌, List}
use Rattle.queue_words.specs.Known.{known_at}
use Rattle.queue_streams.specs.Call.{Accepted}
use Rattle.queue_restarts.specs.ReadyStreams.{ReadyStreams}
use Rattle.owned_streams.specs.Own.{RowsFit}
use Rattle.owned_restarts.specs.declared.ReadyIds.{ReadyIds}

abbrev pub ready_as : ReadyIds → ReadyStreams
ready_as r = record { answer = Accepted 0; count = r.count; ids = r.ids }

-- The first n known streams have rows of the table, each its own.
pub record OwnRows (ws : List ℕ) (n : ℕ) : Type 0 where
  pub few : n ≤ 256
  pub fit : RowsFit ws n
  pub apart : (i j : ℕ) → i < j → j < n → (known_at ws i).place ≡ (known_at ws j).place → ⊥
