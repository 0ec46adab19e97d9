-- What the handler's contracts promise of the words is the step that lists of calls take: the theorems on `used` are about the code. Assumes nothing.
use mathlib.Core.Path.{◌≡◌, refl}
use mathlib.Core.List.{List}
use Prim.Native.Nat.{ℕ}
use Rattle.queue_restarts.specs.Ready.{ready, ready_count}
use Rattle.queue_restarts.specs.Reset.{reset_queue}
use Rattle.linked_restarts.proofs.Contracts.{count_meets, ready_meets, commit_meets, rollback_meets, reset_meets}
use Rattle.queue_runs.specs.Run.{state}
use Rattle.stream_reset_handler.specs.declared.handler.StreamResetHandler.{StreamResetHandler}
use Rattle.stream_reset_handler.specs.MadeRequest.{MadeRequest}
use Rattle.stream_reset_handler.specs.HandledResponse.{HandledResponse}
use Rattle.stream_reset_handler.specs.QueueReset.{QueueReset}
use Rattle.stream_reset_handler.specs.Making.{made_with, IsReady, MakeMeets}
use Rattle.stream_reset_handler.specs.Receiving.{handled_with, IsEnds, HandleMeets, reset_with, ResetHandlerMeets}
use Rattle.reset_runs.specs.Uses.{pair, ready_in, outcome_of, ends_in, requested, responded, was_reset}

-- The definitions that the queue's contracts cite meet them.
pub is_ready : (ws : List ℕ) → IsReady ws (ready_in ws)
is_ready ws = record { counts = count_meets ws (ready_count ws) refl; takes = ready_meets ws (ready ws).answer (ready ws).next refl }

pub is_ends : (ws : List ℕ) → IsEnds ws (ends_in ws)
is_ends ws = record { commits = commit_meets ws _ _ refl; rolls_back = rollback_meets ws _ _ refl }

module _ (h : StreamResetHandler) (ws st : List ℕ) where
  pub request_tied : (out : List ℕ) (response_number last_tsn : ℕ) (m : MadeRequest) (ws' out' : List ℕ) → MakeMeets ws h out response_number last_tsn m ws' out'
      → made_with m ws' out' ≡ requested out response_number last_tsn (pair h (state ws st))
  request_tied out response_number last_tsn m ws' out' k = k.words (ready_in ws) (is_ready ws)

  pub response_tied : (bs : List ℕ) (a : HandledResponse) (ws' : List ℕ) → HandleMeets ws h bs a ws' → handled_with a ws' ≡ responded bs (pair h (state ws st))
  response_tied bs a ws' k = k.words (ends_in ws) (is_ends ws)

  pub reset_tied : (a : QueueReset) (ws' : List ℕ) → ResetHandlerMeets ws h a ws' → reset_with a ws' ≡ was_reset (pair h (state ws st))
  reset_tied a ws' k = k.words (outcome_of (reset_queue ws)) (reset_meets ws _ _ refl)
