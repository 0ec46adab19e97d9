-- What setting a priority or a threshold promises. Assumes nothing.
use Rattle.std.specs.Prelude.{ℕ, ◌≡◌, List}
use Rattle.queue_model.specs.Run as run
use Rattle.queue_streams.specs.Events.{places_in}
use Rattle.queue_streams.specs.Settings.{called, called_with, set_priority_words, set_threshold_words}
use Rattle.queue_streams.specs.Call.{Call}
use Rattle.queue_state.specs.Good.{Good}
use Rattle.queue_state.specs.Promise.{shown, Does, Reports, Tells}

-- Setting a priority answers r and leaves ws': for every input the definition on the words, on the words of a queue the model's step.
pub record SetPriorityMeets (ws : List ℕ) (id p : ℕ) (r : Call) (ws' : List ℕ) : Type 0 where
  pub words : called r ws' ≡ set_priority_words ws id p
  pub model : (st : List ℕ) → Good ws st → Does (run.set_priority id p) ws st r ws' st
  pub tells : (st : List ℕ) → Good ws st → Tells (shown (run.set_priority id p) ws st) r

-- Setting a threshold, with the events in the lent list.
pub record SetThresholdMeets (ws es : List ℕ) (id t : ℕ) (r : Call) (ws' es' : List ℕ) : Type 0 where
  pub words : called_with r ws' es' ≡ set_threshold_words ws es id t
  pub model : (st : List ℕ) → Good ws st → Reports (run.set_threshold (places_in es) id t) ws st es r ws' st es'
  pub tells : (st : List ℕ) → Good ws st → Tells (shown (run.set_threshold (places_in es) id t) ws st) r
