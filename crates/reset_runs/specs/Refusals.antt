-- Refused calls of the handler change nothing and give listed numbers alone, whatever the words, the handler and the bytes. Assumes nothing.
use Rattle.std.specs.Prelude.{ℕ, ◌≡◌, true, List, [], ◌∷◌}
use Rattle.queue_streams.specs.Call as call
use Rattle.queue_runs.specs.Numbers.{among}
use Rattle.stream_reset_handler.specs.RequestAnswer as making
use Rattle.stream_reset_handler.specs.ResponseAnswer as receiving
use Rattle.reset_runs.specs.Uses.{Use, request, response, reset, Pair, requested, responded, was_reset, used}

-- Demand 1: "nothing changes in the queue or in any lent buffer when a call is refused, and it gives back only the number of document 01's list", to
-- which new numbers join.
pub record Refused (u : Use) (p : Pair) (n : ℕ) (numbers : List ℕ) : Type 0 where
  pub unchanged : used u p ≡ p
  pub listed : among n numbers ≡ true

-- "25 when a request is wanted while one is underway, 26 when the output is shorter than the message, 27 when received bytes break this layout; 25 comes
-- first"; a 16 of the queue's own
-- calls is passed on.
pub record HandlerRefused : Type 0 where
  pub requests : (out : List ℕ) (response_number last_tsn : ℕ) (p : Pair) (n : ℕ) → (requested out response_number last_tsn p).made.answer ≡ making.Refused n
      → Refused (request out response_number last_tsn) p n (25 ∷ 16 ∷ 26 ∷ []) × ((requested out response_number last_tsn p).output ≡ out)
  pub responses : (bs : List ℕ) (p : Pair) (n : ℕ) → (responded bs p).handled_as.answer ≡ receiving.Refused n → Refused (response bs) p n (27 ∷ 16 ∷ [])
  pub resets : (p : Pair) (n : ℕ) → (was_reset p).reset_as.answer ≡ call.Refused n → Refused reset p n (16 ∷ [])
