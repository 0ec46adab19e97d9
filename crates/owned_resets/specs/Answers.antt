-- "If an answer is an enum, a definition states this paper's number and values for each case of the enum." Of the handler's owned calls, as the checked call says it; 16 is none of them. Assumes nothing.
use Rattle.std.specs.Prelude.{ℕ, Option, Some, None, Result, Ok, Err}
use Rattle.types.specs.declared.refusal.Refusal as refusal
use Rattle.types.specs.declared.refusal.Refusal.TheVariants as refusal_is
use Rattle.types.specs.Refusal.{refusal_number}
use Rattle.send_queue.specs.Call as call
use Rattle.stream_reset_handler.specs.declared.handler.StreamResetHandler.{StreamResetHandler}
use Rattle.stream_reset_handler.specs.declared.receiving.ResponseAnswer as told
use Rattle.stream_reset_handler.specs.declared.receiving.ResponseAnswer.TheVariants as told_is
use Rattle.stream_reset_handler.specs.RequestAnswer as making
use Rattle.stream_reset_handler.specs.MadeRequest as checked_made
use Rattle.stream_reset_handler.specs.ResponseAnswer as receiving
use Rattle.stream_reset_handler.specs.HandledResponse as checked_handled
use Rattle.stream_reset_handler.specs.QueueReset.{QueueReset}
use Rattle.owned_resets.specs.declared.making.RequestRefusal.{RequestRefusal}
use Rattle.owned_resets.specs.declared.making.RequestRefusal.TheVariants.{Underway, OutputShort}
use Rattle.owned_resets.specs.declared.making.MadeRequest.{MadeRequest}
use Rattle.owned_resets.specs.declared.receiving.ResponseWrong.{ResponseWrong}
use Rattle.owned_resets.specs.declared.receiving.HandledResponse.{HandledResponse}

-- 25: "a request is wanted while one is underway". 26: "the output is shorter than the message".
abbrev pub request_refusal : RequestRefusal → refusal.Refusal
request_refusal Underway = refusal_is.RequestUnderway
request_refusal OutputShort = refusal_is.RequestOutputShort

-- 27: "received bytes break this layout".
abbrev pub wrong_response : refusal.Refusal
wrong_response = refusal_is.ResponseWrong

abbrev pub request_as : Result (Option ℕ) RequestRefusal → making.RequestAnswer
request_as (Ok (Some size)) = making.Written size
request_as (Ok None) = making.NoneReady
request_as (Err e) = making.Refused (refusal_number (request_refusal e))

abbrev pub made_as : MadeRequest → checked_made.MadeRequest
made_as r = record { answer = request_as r.answer; handler = r.handler }

abbrev pub response_as : Result told.ResponseAnswer ResponseWrong → receiving.ResponseAnswer
response_as (Ok told_is.Ignored) = receiving.Ignored
response_as (Ok told_is.Committed) = receiving.Committed
response_as (Ok told_is.RolledBack) = receiving.RolledBack
response_as (Ok told_is.StillWaiting) = receiving.StillWaiting
response_as (Err e) = receiving.Refused (refusal_number wrong_response)

abbrev pub handled_as : HandledResponse → checked_handled.HandledResponse
handled_as r = record { answer = response_as r.answer; handler = r.handler }

-- The whole-queue reset is never refused.
abbrev pub reset_as : StreamResetHandler → QueueReset
reset_as h = record { answer = call.Accepted 0; handler = h }
