-- Parts of the table of waiting streams, as they are lent. Assumes nothing.
use Rattle.std.specs.Prelude.{ℕ, ◌+◌, ◌<◌, ◌≡◌, List, length, get_or}
use Rattle.queue_words.specs.Active.{active_at}
use Rattle.queue_words.specs.declared.active.ActiveStreamInfo.{ActiveStreamInfo}

-- What a place past a lent table's end would read.
abbrev pub no_row : ActiveStreamInfo
no_row = record { stream_id = record { 0 = 0 }; parameters = 0; virtual_start_time = 0; virtual_finish_time = 0; bytes_remaining = 0 }

-- The rows of a lent table, and those of the queue from one on.
abbrev pub rows_of : List ActiveStreamInfo → ℕ → ActiveStreamInfo
rows_of t i = get_or t i no_row

abbrev pub rows_from : List ℕ → ℕ → ℕ → ActiveStreamInfo
rows_from ws from i = active_at ws (from + i)

-- They are the n rows of the queue from one on.
pub record AreRows (ws : List ℕ) (from n : ℕ) (rows : List ActiveStreamInfo) : Type 0 where
  pub count : length rows ≡ n
  pub each : (i : ℕ) → i < n → rows_of rows i ≡ rows_from ws from i
