-- What adding a message promises. Assumes nothing.
use Rattle.std.specs.Prelude.{ℕ, ◌≡◌, List, length}
use Rattle.queue_model.specs.Run as run
use Rattle.queue_streams.specs.Call.{Call}
use Rattle.queue_state.specs.Good.{Good}
use Rattle.queue_state.specs.Promise.{shown, Does, Tells}
use Rattle.queue_messages.specs.Add.{added, add}
use Rattle.queue_messages.specs.declared.message.Message.{Message}
use Rattle.linked_adding.specs.Message.{message_of_words}

-- Adding a message answers r and leaves ws' and st': for every input the definition on the words, on the words of a queue the model's step.
pub record AddMeets (ws st : List ℕ) (time : ℕ) (m : Message) (bs : List ℕ) (r : Call) (ws' st' : List ℕ) : Type 0 where
  pub words : added r ws' st' ≡ add ws st time m bs
  pub model : Good ws st → Does (run.add (length st) time (message_of_words m bs)) ws st r ws' st'
  pub tells : Good ws st → Tells (shown (run.add (length st) time (message_of_words m bs)) ws st) r
