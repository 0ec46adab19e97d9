-- What making a request promises. Assumes nothing.
use Rattle.std.specs.Prelude.{ℕ, ◌≡◌, List, eqb, ltb, length, take}
use Rattle.types.specs.Wrap.{wrap_suc}
use Rattle.big_endian.specs.Numbers.{wrote}
use Rattle.std.specs.Prelude.{if◌then◌else◌}
use Rattle.send_queue.specs.Number.{Number}
use Rattle.send_queue.specs.Number as number
use Rattle.send_queue.specs.ReadyStreams.{ReadyStreams}
use Rattle.send_queue.specs.Queue as state
use Rattle.send_queue.specs.Queue.{Good}
use Rattle.send_queue.specs.Restarts.{CountMeets, ReadyMeets}
use Rattle.reset_model.specs.Wire.{request_size, request_bytes}
use Rattle.reset_model.specs.Handler as model
use Rattle.stream_reset_handler.specs.Underway.{Underway}
use Rattle.std.specs.Prelude.{Some, None}
use Rattle.stream_reset_handler.specs.declared.handler.StreamResetHandler.{StreamResetHandler}
use Rattle.stream_reset_handler.specs.RequestAnswer.{RequestAnswer}
use Rattle.stream_reset_handler.specs.RequestAnswer.{Written, NoneReady, Refused}
use Rattle.stream_reset_handler.specs.MadeRequest.{MadeRequest}
use Rattle.stream_reset_handler.specs.Handler.{handler_of}

-- ------------------------------------------------------------------ on any words

-- What the call leaves: answer and handler, the words, the output.
pub record MadeWith : Type 0 where
  pub made : MadeRequest
  pub words : List ℕ
  pub output : List ℕ

abbrev pub made_with : MadeRequest → List ℕ → List ℕ → MadeWith
made_with m ws out = record { made = m; words = ws; output = out }

abbrev pub told : RequestAnswer → StreamResetHandler → MadeRequest
told a h = record { answer = a; handler = h }

-- "Request numbers [..] grow by one a message and wrap at 32 bits."
abbrev pub next_handler : StreamResetHandler → StreamResetHandler
next_handler h = record { next_number = wrap_suc 32 h.next_number; underway = Some h.next_number }

-- A message with these ids at the output's start; "lent output past what is written stays unchanged" (1/13).
abbrev pub message_in : List ℕ → StreamResetHandler → ℕ → ℕ → List ℕ → List ℕ
message_in out h response_number last_tsn ids = wrote out 0 (request_bytes h.next_number response_number last_tsn ids)

-- What the queue's calls give on these words: how many ids are ready; the ready ids and the words after they are taken.
pub record Ready : Type 0 where
  pub count : Number
  pub taken : ReadyStreams
  pub next : List ℕ

-- A message with the ready ids, which are taken.
abbrev pub written_for : ℕ → Ready → StreamResetHandler → List ℕ → ℕ → ℕ → MadeWith
written_for n q h out response_number last_tsn =
    made_with (told (Written (request_size n)) (next_handler h)) q.next (message_in out h response_number last_tsn (take n q.taken.ids))

-- "With no stream ready nothing is written and the answer says so." 26: "the output is shorter than the message". A refusal of the queue's is passed on.
abbrev pub request_for : Number → Ready → List ℕ → StreamResetHandler → List ℕ → ℕ → ℕ → MadeWith
request_for (number.Refused n) q ws h out response_number last_tsn = made_with (told (Refused n) h) ws out
request_for (number.Value n) q ws h out response_number last_tsn =
    if eqb n 0 then made_with (told NoneReady h) ws out
    else if ltb (length out) (request_size n) then made_with (told (Refused 26) h) ws out
    else written_for n q h out response_number last_tsn

-- 25: "a request is wanted while one is underway"; "25 comes first".
abbrev pub request_in : Underway → Ready → List ℕ → StreamResetHandler → List ℕ → ℕ → ℕ → MadeWith
request_in (Some n) q ws h out response_number last_tsn = made_with (told (Refused 25) h) ws out
request_in None q ws h out response_number last_tsn = request_for q.count q ws h out response_number last_tsn

unfoldable pub make_request : Ready → List ℕ → StreamResetHandler → List ℕ → ℕ → ℕ → MadeWith
make_request q ws h out response_number last_tsn = request_in h.underway q ws h out response_number last_tsn

-- That these are what the queue's contracts give; they determine it.
pub record IsReady (ws : List ℕ) (q : Ready) : Type 0 where
  pub counts : CountMeets ws q.count
  pub takes : ReadyMeets ws q.taken q.next

-- ------------------------------------------------------------------ on the words of a queue, the model's

-- "If an answer is an enum, a definition states this paper's number and values for each case of the enum."
abbrev pub request_answer_of : model.Answer → RequestAnswer
request_answer_of (model.refused n) = Refused n
request_answer_of model.none_ready = NoneReady
request_answer_of (model.written bs) = Written (length bs)
request_answer_of model.ignored = NoneReady
request_answer_of model.committed = NoneReady
request_answer_of model.rolled_back = NoneReady
request_answer_of model.still_waiting = NoneReady
request_answer_of model.was_reset = NoneReady

-- The output: a message at its start.
abbrev pub output_of : model.Answer → List ℕ → List ℕ
output_of (model.refused n) out = out
output_of model.none_ready out = out
output_of (model.written bs) out = wrote out 0 bs
output_of model.ignored out = out
output_of model.committed out = out
output_of model.rolled_back out = out
output_of model.still_waiting out = out
output_of model.was_reset out = out

pub record Makes (e : model.Effect) (st out : List ℕ) (m : MadeRequest) (ws' out' : List ℕ) : Type 0 where
  pub good : Good ws' st
  pub next : state.model ws' st ≡ e.next
  pub answer : m.answer ≡ request_answer_of e.answer
  pub handler : m.handler ≡ handler_of e.handler
  pub output : out' ≡ output_of e.answer out

-- Making a request: on any words what `make_request` says of what the queue's calls give there; on the words of a queue the model's step.
pub record MakeMeets (ws : List ℕ) (h : StreamResetHandler) (out : List ℕ) (response_number last_tsn : ℕ) (m : MadeRequest) (ws' out' : List ℕ) : Type 0 where
  pub words : (q : Ready) → IsReady ws q → made_with m ws' out' ≡ make_request q ws h out response_number last_tsn
  pub model : (st : List ℕ) → Good ws st → (p : model.Handler) → h ≡ handler_of p → Makes (model.make_request (length out) response_number last_tsn p (state.model ws st)) st out m ws' out'
