-- Each of the handler's calls leaves the words of a queue, with the same store: what the next call asks for. Assumes nothing.
use Rattle.std.specs.Prelude.{ℕ, List}
use Rattle.queue_state.specs.Good.{Good}
use Rattle.stream_reset_handler.specs.declared.handler.StreamResetHandler.{StreamResetHandler}
use Rattle.stream_reset_handler.specs.MadeRequest.{MadeRequest}
use Rattle.stream_reset_handler.specs.HandledResponse.{HandledResponse}
use Rattle.stream_reset_handler.specs.QueueReset.{QueueReset}
use Rattle.stream_reset_handler.specs.Making.{MakeMeets}
use Rattle.stream_reset_handler.specs.Receiving.{HandleMeets, ResetHandlerMeets}
use Rattle.owned_streams.specs.Own.{OwnWords}

-- Words of a queue with this store, and with any.
abbrev pub Keeps : List ℕ → List ℕ → Type 0
Keeps ws ws' = ((st : List ℕ) → Good ws st → Good ws' st) × (OwnWords ws → OwnWords ws')

pub record Chains : Type 0 where
  pub made : (ws : List ℕ) (h : StreamResetHandler) (out : List ℕ) (response_number last_tsn : ℕ) (r : MadeRequest) (ws' out' : List ℕ) → MakeMeets ws h out response_number last_tsn r ws' out' → Keeps ws ws'
  pub handled : (ws : List ℕ) (h : StreamResetHandler) (bs : List ℕ) (r : HandledResponse) (ws' : List ℕ) → HandleMeets ws h bs r ws' → Keeps ws ws'
  pub was_reset : (ws : List ℕ) (h : StreamResetHandler) (r : QueueReset) (ws' : List ℕ) → ResetHandlerMeets ws h r ws' → Keeps ws ws'
