-- The calls of the handler and the other calls on its queue, over the words and the store; lists of them. Assumes nothing.
use Rattle.std.specs.Prelude.{ℕ, ◌≡◌, true, false, List, [], ◌∷◌, take}
use Rattle.std.proofs.Math.Option.{Option, some}
use Rattle.queue_streams.specs.Restart.{reopen}
use Rattle.queue_streams.specs.Settings.{Called}
use Rattle.queue_restarts.specs.Ready.{ready, ready_count}
use Rattle.queue_restarts.specs.Reset.{reset_queue}
use Rattle.queue_runs.specs.Calls.{Call, call_of, Typed}
use Rattle.queue_runs.specs.Run.{State, state, step}
use Rattle.reset_model.specs.Uses as model
use Rattle.stream_reset_handler.specs.declared.handler.StreamResetHandler.{StreamResetHandler}
use Rattle.stream_reset_handler.specs.RequestAnswer.{RequestAnswer}
use Rattle.stream_reset_handler.specs.RequestAnswer.{Written, NoneReady, Refused}
use Rattle.stream_reset_handler.specs.Making.{Ready, MadeWith, make_request}
use Rattle.stream_reset_handler.specs.Receiving.{Outcome, Ends, HandledWith, handle_response, ResetWith, reset_by}

-- A call of the handler, with the output or the bytes lent to it; or another call on its queue.
pub data Use : Type 0 where
  request : (output : List ℕ) (response_number last_tsn : ℕ) → Use
  response : (bytes : List ℕ) → Use
  reset : Use
  other : Call → Use

-- "with ready ids, commit, rollback and that reset called only by it"; the other calls have their widths.
abbrev pub Allowed : Use → Type 0
Allowed (request out response_number last_tsn) = Unit {0}
Allowed (response bytes) = Unit {0}
Allowed reset = Unit {0}
Allowed (other c) = Typed c × ((len : ℕ) → model.only_by_it (call_of len c) ≡ false)

abbrev pub AllAllowed : List Use → Type 0
AllAllowed [] = Unit {0}
AllAllowed (u ∷ us) = Allowed u × AllAllowed us

-- A queue, by its words and its store, with its handler.
pub record Pair : Type 0 where
  pub handler : StreamResetHandler
  pub queue : State

abbrev pub pair : StreamResetHandler → State → Pair
pair h s = record { handler = h; queue = s }

-- What the queue's calls give on these words, by the definitions that their contracts cite.
abbrev pub ready_in : List ℕ → Ready
ready_in ws = record { count = ready_count ws; taken = (ready ws).answer; next = (ready ws).next }

abbrev pub outcome_of : Called → Outcome
outcome_of r = record { answer = r.answer; next = r.next }

abbrev pub ends_in : List ℕ → Ends
ends_in ws = record { commit = outcome_of (reopen true ws); rollback = outcome_of (reopen false ws) }

-- What the handler's calls leave, by the definitions that theirs cite.
abbrev pub requested : List ℕ → ℕ → ℕ → Pair → MadeWith
requested out response_number last_tsn p = make_request (ready_in p.queue.words) p.queue.words p.handler out response_number last_tsn

abbrev pub responded : List ℕ → Pair → HandledWith
responded bs p = handle_response (ends_in p.queue.words) p.queue.words p.handler bs

abbrev pub was_reset : Pair → ResetWith
was_reset p = reset_by (reset_queue p.queue.words).answer (reset_queue p.queue.words).next p.handler

-- One call. The handler's calls are not lent the store.
unfoldable pub used : Use → Pair → Pair
used (request out response_number last_tsn) p = let m = requested out response_number last_tsn p in pair m.made.handler (state m.words p.queue.store)
used (response bs) p = let a = responded bs p in pair a.handled_as.handler (state a.words p.queue.store)
used reset p = let a = was_reset p in pair a.reset_as.handler (state a.words p.queue.store)
used (other c) p = pair p.handler (step c p.queue).next

-- A list of calls, each with queue, store and handler as the last one left them.
unfoldable pub after : List Use → Pair → Pair
after [] p = p
after (u ∷ us) p = after us (used u p)

-- The last message written, read off the output.
abbrev pub last_written : RequestAnswer → List ℕ → Option (List ℕ) → Option (List ℕ)
last_written (Written size) out l = some (take size out)
last_written NoneReady out l = l
last_written (Refused n) out l = l

unfoldable pub message_after : Use → Pair → Option (List ℕ) → Option (List ℕ)
message_after (request out response_number last_tsn) p l = let m = requested out response_number last_tsn p in last_written m.made.answer m.output l
message_after (response bs) p l = l
message_after reset p l = l
message_after (other c) p l = l

unfoldable pub last_message : List Use → Pair → Option (List ℕ) → Option (List ℕ)
last_message [] p l = l
last_message (u ∷ us) p l = last_message us (used u p) (message_after u p l)
