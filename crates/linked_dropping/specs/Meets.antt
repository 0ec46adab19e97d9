-- Both promises of discarding and closing: the words after them, for every input; and from good words the model's step. Assumes nothing.
use Rattle.std.specs.Prelude.{ℕ, ◌≡◌, List}
use Rattle.queue_model.specs.Run as run
use Rattle.queue_streams.specs.Events.{places_in}
use Rattle.queue_streams.specs.Settings.{called_with}
use Rattle.queue_streams.specs.Call.{Call}
use Rattle.queue_messages.specs.Discard.{discard}
use Rattle.queue_closing.specs.Close.{close}
use Rattle.queue_state.specs.Good.{Good}
use Rattle.queue_state.specs.Promise.{shown, Reports, Tells}

-- "Discard acts only on a head with that id." The store is not touched.
pub record DiscardMeets (ws es ws' es' : List ℕ) (id message : ℕ) (r : Call) : Type 0 where
  pub words : called_with r ws' es' ≡ discard ws es id message
  pub model : (st : List ℕ) → Good ws st → Reports (run.discard (places_in es) id message) ws st es r ws' st es'
  pub tells : (st : List ℕ) → Good ws st → Tells (shown (run.discard (places_in es) id message) ws st) r

-- Closing: "It drops every message at offset 0; a remaining half-sent one makes the stream pending, none makes it paused."
pub record CloseMeets (ws es ws' es' : List ℕ) (id : ℕ) (r : Call) : Type 0 where
  pub words : called_with r ws' es' ≡ close ws es id
  pub model : (st : List ℕ) → Good ws st → Reports (run.close (places_in es) id) ws st es r ws' st es'
  pub tells : (st : List ℕ) → Good ws st → Tells (shown (run.close (places_in es) id) ws st) r
