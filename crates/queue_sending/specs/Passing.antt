-- Passing over expired heads with a log of what each drop changes. Assumes nothing.
use Rattle.std.specs.Prelude.{ℕ, ◌+◌, ◌*◌, ◌≤◌, ◌≡◌, List, drop}
use Rattle.queue_streams.specs.Events.{place_words}
use Rattle.undo_log.specs.Log.{header, undone}
use Rattle.queue_sending.specs.Produce.{passed}

-- Where passing over ws and es with n messages and k events stands after `drops` drops, of at most `room`: the words are us, the events vs, and the log
-- has what undoes them.
pub record Kept (room : ℕ) (ws es : List ℕ) (time n k : ℕ) (log us vs : List ℕ) (left count drops : ℕ) : Type 0 where
  pub few : drops ≤ room
  -- what is left to do leaves what all of it leaves
  pub over : passed left us vs time count ≡ passed n ws es time k
  -- the drops undone, the words behind the header are as they were
  pub back : drop header (undone log drops us) ≡ drop header ws
  -- a drop writes at most four events: those behind them are as they were
  pub behind : (m : ℕ) → (k + room * 4) * place_words ≤ m → drop m vs ≡ drop m es
