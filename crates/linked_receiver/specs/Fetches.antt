-- What fetching means where the words are those of a receiver. Assumes nothing.
use Rattle.std.specs.Prelude.{◌≡◌, List, ℕ, length, take, drop}
use Rattle.receiver_model.specs.Types.{Receiver, Answer, refused, none_ready, fetched}
use Rattle.receiver_model.specs.Fetch as model
use Rattle.receiver_fragments.specs.Fetched.{Fetched}
use Rattle.receiver_fragments.specs.Fetched as answer
use Rattle.receiver_fragments.specs.Fetching.{Outcome}
use Rattle.linked_receiver.specs.Promise.{Represents}

-- how many bytes of the buffer an answer fills
abbrev pub filled : Fetched → ℕ
filled (answer.Refused n) = 0
filled answer.NoneReady = 0
filled (answer.Message d) = d.length

-- an answer as the model's: "stream, order mark, first fragment's protocol id, payload", the payload at the buffer's start
abbrev pub answer_of : Fetched → List ℕ → Answer
answer_of (answer.Refused n) out = refused n
answer_of answer.NoneReady out = none_ready
answer_of (answer.Message d) out = fetched (record { stream = d.stream.0; unordered = d.unordered; ppid = d.ppid; payload = take d.length out })

-- a call of fetching with the lent store st and buffer out, and what it left: the model's step on the receiver r
pub record Fetches (r : Receiver) (st out : List ℕ) (o : Outcome) : Type 0 where
  pub represents : Represents o.words st (model.fetch (length st) (length out) r).next
  pub answered : answer_of o.answer o.buffer ≡ (model.fetch (length st) (length out) r).answer
  -- of the buffer nothing else is changed
  pub beyond : drop (filled o.answer) o.buffer ≡ drop (filled o.answer) out
