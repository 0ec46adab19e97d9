-- What the code answers, in the documents' numbers: "If an answer is an enum, a definition states this paper's number and values for each case of the enum."
-- Assumes nothing.
use Rattle.std.specs.Prelude.{ℕ, Option, Some, None, Result, Ok, Err}
use Rattle.types.specs.Refusal.{refusal_number}
use Rattle.types.specs.declared.refusal.Refusal.{Refusal}
use Rattle.send_queue.specs.Call.{as_call}
use Rattle.stream_reset_handler.specs.RequestAnswer as request
use Rattle.stream_reset_handler.specs.MadeRequest.{MadeRequest}
use Rattle.stream_reset_handler.specs.ResponseAnswer as response
use Rattle.stream_reset_handler.specs.HandledResponse.{HandledResponse}
use Rattle.stream_reset_handler.specs.QueueReset.{QueueReset}
use Rattle.stream_reset_handler.specs.declared.making.MadeRequest as made
use Rattle.stream_reset_handler.specs.declared.receiving.ResponseAnswer as told
use Rattle.stream_reset_handler.specs.declared.receiving.ResponseAnswer.TheVariants as told_is
use Rattle.stream_reset_handler.specs.declared.receiving.HandledResponse as handled
use Rattle.stream_reset_handler.specs.declared.receiving.QueueReset as was_reset

abbrev pub as_request : Result (Option ℕ) Refusal → request.RequestAnswer
as_request (Ok (Some n)) = request.Written n
as_request (Ok None) = request.NoneReady
as_request (Err r) = request.Refused (refusal_number r)

abbrev pub as_made : made.MadeRequest → MadeRequest
as_made m = record { answer = as_request m.answer; handler = m.handler }

abbrev pub as_response : Result told.ResponseAnswer Refusal → response.ResponseAnswer
as_response (Ok told_is.Ignored) = response.Ignored
as_response (Ok told_is.Committed) = response.Committed
as_response (Ok told_is.RolledBack) = response.RolledBack
as_response (Ok told_is.StillWaiting) = response.StillWaiting
as_response (Err r) = response.Refused (refusal_number r)

abbrev pub as_handled : handled.HandledResponse → HandledResponse
as_handled h = record { answer = as_response h.answer; handler = h.handler }

abbrev pub as_reset : was_reset.QueueReset → QueueReset
as_reset r = record { answer = as_call r.answer; handler = r.handler }
