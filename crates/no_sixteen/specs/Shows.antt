-- Whether a call shows refusal 16: of saving, of the handler's calls, of creation; the queue's other calls: queue_runs, specs/Creation. Assumes nothing.
use Rattle.std.specs.Prelude.{ℕ, ◌≡◌, Bool, false, List, [], ◌∷◌, eqb}
use Rattle.saving.specs.Save.{save_image}
use Rattle.saving.specs.Saved.{Saved}
use Rattle.saving.specs.Saved as saved
use Rattle.queue_runs.specs.Calls as calls
use Rattle.queue_runs.specs.Calls.{Call, Typed}
use Rattle.queue_runs.specs.Run.{State, step}
use Rattle.queue_runs.specs.Creation.{Arguments, creation, sixteen}
use Rattle.stream_reset_handler.specs.RequestAnswer.{RequestAnswer}
use Rattle.stream_reset_handler.specs.RequestAnswer as making
use Rattle.stream_reset_handler.specs.ResponseAnswer.{ResponseAnswer}
use Rattle.stream_reset_handler.specs.ResponseAnswer as receiving
use Rattle.reset_runs.specs.Uses.{Use, request, response, reset, other, Pair, requested, responded, was_reset, used}

-- A call on a queue.
abbrev pub call_shows : Call → State → Bool
call_shows c s = sixteen (step c s).shows.answer

-- Saving at a time, with a lent buffer.
abbrev pub sixteen_saved : Saved → Bool
sixteen_saved (saved.Image n) = false
sixteen_saved (saved.Refused n) = eqb n 16

abbrev pub save_shows : List ℕ → ℕ → State → Bool
save_shows buffer time s = sixteen_saved (save_image s.words s.store buffer time).answer

-- Creation, in any words.
abbrev pub create_shows : Arguments → State → Bool
create_shows a s = sixteen (calls.called (creation a s).answer)

-- A call of the stream reset handler, or another call on its queue.
abbrev pub sixteen_request : RequestAnswer → Bool
sixteen_request (making.Written n) = false
sixteen_request making.NoneReady = false
sixteen_request (making.Refused n) = eqb n 16

abbrev pub sixteen_response : ResponseAnswer → Bool
sixteen_response receiving.Ignored = false
sixteen_response receiving.Committed = false
sixteen_response receiving.RolledBack = false
sixteen_response receiving.StillWaiting = false
sixteen_response (receiving.Refused n) = eqb n 16

abbrev pub use_shows : Use → Pair → Bool
use_shows (request out response_number last_tsn) p = sixteen_request (requested out response_number last_tsn p).made.answer
use_shows (response bs) p = sixteen_response (responded bs p).handled_as.answer
use_shows reset p = sixteen (calls.called (was_reset p).reset_as.answer)
use_shows (other c) p = call_shows c p.queue

-- All that can be called: the handler's calls take any bytes.
abbrev pub UseTyped : Use → Type 0
UseTyped (request out response_number last_tsn) = Unit {0}
UseTyped (response bs) = Unit {0}
UseTyped reset = Unit {0}
UseTyped (other c) = Typed c

abbrev pub UsesTyped : List Use → Type 0
UsesTyped [] = Unit {0}
UsesTyped (u ∷ us) = UseTyped u × UsesTyped us

-- None of a list shows it.
abbrev pub NoUseShows : List Use → Pair → Type 0
NoUseShows [] p = Unit {0}
NoUseShows (u ∷ us) p = (use_shows u p ≡ false) × NoUseShows us (used u p)
