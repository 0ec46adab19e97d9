-- The stream reset handler for a host in C: its state in three numbers of 32 bits, what its calls give. Assumes nothing.
use Rattle.std.specs.Prelude.{ℕ, ◌≡◌, List, eqb, set, get_or}
use Rattle.queue_words.specs.Flags.{pick}
use Rattle.queue_streams.specs.Answers.{call_number}
use Rattle.queue_streams.specs.Call.{Call}
use Rattle.queue_streams.specs.Call as call
use Rattle.stream_reset_handler.specs.Underway.{Underway}
use Rattle.std.specs.Prelude.{Some, None}
use Rattle.stream_reset_handler.specs.declared.handler.StreamResetHandler.{StreamResetHandler}
use Rattle.stream_reset_handler.specs.RequestAnswer.{RequestAnswer}
use Rattle.stream_reset_handler.specs.RequestAnswer as request
use Rattle.stream_reset_handler.specs.MadeRequest.{MadeRequest}
use Rattle.stream_reset_handler.specs.ResponseAnswer.{ResponseAnswer}
use Rattle.stream_reset_handler.specs.ResponseAnswer as response
use Rattle.stream_reset_handler.specs.HandledResponse.{HandledResponse}
use Rattle.stream_reset_handler.specs.QueueReset.{QueueReset}
use Rattle.stream_reset_handler.specs.Making.{MakeMeets}
use Rattle.stream_reset_handler.specs.Receiving.{HandleMeets, ResetHandlerMeets}

-- ------------------------------------------------------------------ the handler in numbers

-- 0 the next request number, 1 a flag: whether a request is underway, 2 its number. Any three numbers are a handler.
abbrev pub handler_in : List ℕ → StreamResetHandler
handler_in hs = pick (eqb (get_or hs 1 0) 0) (record { next_number = get_or hs 0 0; underway = None }) (record { next_number = get_or hs 0 0; underway = Some (get_or hs 2 0) })

-- The place of a number with none underway stays.
abbrev pub underway_numbers : List ℕ → Underway → List ℕ
underway_numbers hs None = set hs 1 0
underway_numbers hs (Some n) = set (set hs 1 1) 2 n

abbrev pub handler_numbers : List ℕ → StreamResetHandler → List ℕ
handler_numbers hs h = underway_numbers (set hs 0 h.next_number) h.underway

-- ------------------------------------------------------------------ making a request

abbrev pub request_number : RequestAnswer → ℕ
request_number (request.Written n) = 0
request_number request.NoneReady = 0
request_number (request.Refused n) = n

-- The bytes written: "With no stream ready nothing is written and the answer says so", by 0.
abbrev pub request_out : List ℕ → RequestAnswer → List ℕ
request_out out (request.Written n) = set out 0 n
request_out out request.NoneReady = set out 0 0
request_out out (request.Refused n) = out

abbrev pub request_handler : List ℕ → RequestAnswer → StreamResetHandler → List ℕ
request_handler hs (request.Written n) h = handler_numbers hs h
request_handler hs request.NoneReady h = hs
request_handler hs (request.Refused n) h = hs

-- What `make_request` made, in numbers.
pub record GivesRequest (ws hs bs : List ℕ) (response_number last_tsn : ℕ) (out : List ℕ) (r : ℕ) (ws' hs' bs' out' : List ℕ) : Type 0 where
  pub made : MadeRequest
  pub meets : MakeMeets ws (handler_in hs) bs response_number last_tsn made ws' bs'
  pub number : r ≡ request_number made.answer
  pub places : out' ≡ request_out out made.answer
  pub handler : hs' ≡ request_handler hs made.answer made.handler

-- ------------------------------------------------------------------ receiving a response

abbrev pub response_number_words : ResponseAnswer → ℕ
response_number_words response.Ignored = 0
response_number_words response.Committed = 0
response_number_words response.RolledBack = 0
response_number_words response.StillWaiting = 0
response_number_words (response.Refused n) = n

-- 0 it changes nothing, 1 committed, 2 rolled back, 3 the request goes on waiting.
abbrev pub response_out : List ℕ → ResponseAnswer → List ℕ
response_out out response.Ignored = set out 0 0
response_out out response.Committed = set out 0 1
response_out out response.RolledBack = set out 0 2
response_out out response.StillWaiting = set out 0 3
response_out out (response.Refused n) = out

abbrev pub response_handler : List ℕ → ResponseAnswer → StreamResetHandler → List ℕ
response_handler hs response.Ignored h = hs
response_handler hs response.Committed h = handler_numbers hs h
response_handler hs response.RolledBack h = handler_numbers hs h
response_handler hs response.StillWaiting h = hs
response_handler hs (response.Refused n) h = hs

pub record GivesResponse (ws hs bs out : List ℕ) (r : ℕ) (ws' hs' out' : List ℕ) : Type 0 where
  pub handled : HandledResponse
  pub meets : HandleMeets ws (handler_in hs) bs handled ws'
  pub number : r ≡ response_number_words handled.answer
  pub places : out' ≡ response_out out handled.answer
  pub handler : hs' ≡ response_handler hs handled.answer handled.handler

-- ------------------------------------------------------------------ the whole-queue reset

abbrev pub reset_handler : List ℕ → Call → StreamResetHandler → List ℕ
reset_handler hs (call.Accepted k) h = handler_numbers hs h
reset_handler hs (call.Refused n) h = hs

pub record GivesReset (ws hs : List ℕ) (r : ℕ) (ws' hs' : List ℕ) : Type 0 where
  pub reset : QueueReset
  pub meets : ResetHandlerMeets ws (handler_in hs) reset ws'
  pub number : r ≡ call_number reset.answer
  pub handler : hs' ≡ reset_handler hs reset.answer reset.handler
