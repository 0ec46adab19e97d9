-- What restoring promises. Assumes nothing.
use Rattle.std.specs.Prelude.{ℕ, ◌≡◌, List, length}
use Rattle.queue_model.specs.Run as run
use Rattle.queue_streams.specs.Call.{Call}
use Rattle.queue_messages.specs.Add.{added}
use Rattle.queue_state.specs.Good.{Good}
use Rattle.queue_state.specs.Promise.{shown, Does, Tells}
use Rattle.handover.specs.Restore.{restore}

-- Restoring an image answers r and leaves ws' and st': for every input the definition on the words, on the words of a queue the model's step.
pub record RestoreMeets (ws st : List ℕ) (time : ℕ) (bs : List ℕ) (r : Call) (ws' st' : List ℕ) : Type 0 where
  pub words : added r ws' st' ≡ restore ws st time bs
  pub model : Good ws st → Does (run.restore (length st) time bs) ws st r ws' st'
  pub tells : Good ws st → Tells (shown (run.restore (length st) time bs) ws st) r
