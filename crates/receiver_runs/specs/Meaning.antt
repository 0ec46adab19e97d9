-- What the calls on a receiver mean: the model's calls, its receiver and its answers. Assumes nothing.
use Rattle.std.specs.Prelude.{ℕ, ◌≡◌, Bool, false, List, [], ◌∷◌, map, eqb, length}
use Rattle.std.proofs.Math.Option.{Option, none, some}
use Rattle.chunks.specs.ChunkRead.{ChunkRead}
use Rattle.chunks.specs.ChunkRead as read
use Rattle.chunks.specs.Layout.{is_iData}
use Rattle.chunks.specs.Reading.{read_chunk, payload_of}
use Rattle.receiver_model.specs.Types as model
use Rattle.receiver_model.specs.Types.{Chunk}
use Rattle.receiver_model.specs.Receive.{new_receiver}
use Rattle.receiver_model.specs.Run as run
use Rattle.receiver_words.specs.Chunks.{kind_of, chunk_of}
use Rattle.receiver_fragments.specs.Received as answer
use Rattle.receiver_fragments.specs.Fetched as fetch_answer
use Rattle.receiver_calls.specs.Receiving.{fragment_of}
use Rattle.linked_receiver.specs.Promise.{Represents}
use Rattle.linked_receiver.specs.Receives as receiving
use Rattle.linked_receiver.specs.Fetches as fetching
use Rattle.queue_runs.specs.Run.{State}
use Rattle.receiver_runs.specs.Calls.{Lent, own, other, Call, receive, fetch, AllTyped, Answer, received, fetched, Shown}
use Rattle.receiver_runs.specs.Run as runs
use Rattle.receiver_runs.specs.Run.{new_receiver_words, Creates}

-- ------------------------------------------------------------------ calls

-- What 1/13's reader gives of bytes, as the model's chunk; none where they are not one chunk with payload.
abbrev pub chunk_as : List ℕ → ChunkRead → Option Chunk
chunk_as bs (read.Read c) = some (chunk_of (kind_of (is_iData c.kind)) (fragment_of c) (payload_of c bs))
chunk_as bs (read.Refused n) = none

abbrev pub chunk_read : List ℕ → Option Chunk
chunk_read bs = chunk_as bs (read_chunk bs)

-- The length of the lent store, where the receiver's own has this length.
abbrev pub lent_length : ℕ → Lent → ℕ
lent_length len own = len
lent_length len (other st) = length st

-- The model's call, on a receiver whose store has this length.
abbrev pub call_of : ℕ → Call → run.Call
call_of len (receive l bs) = run.receive (lent_length len l) (chunk_read bs)
call_of len (fetch l out) = run.fetch (lent_length len l) (length out)

abbrev pub calls_of : ℕ → List Call → List run.Call
calls_of len cs = map (call_of len) cs

-- ------------------------------------------------------------------ answers

-- What a call shows, as the model's answer: of a message fetched the payload at the buffer's start (crate linked_receiver: `answer_of`).
abbrev pub answer_in : Answer → List ℕ → model.Answer
answer_in (received a) out = receiving.answer_of a
answer_in (fetched a) out = fetching.answer_of a out

abbrev pub answers_of : List Shown → List model.Answer
answers_of os = map (λ (o : Shown). answer_in o.answer o.buffer) os

-- Refusal 16 says that the words are broken.
abbrev pub sixteen : Answer → Bool
sixteen (received (answer.Refused n)) = eqb n 16
sixteen (received answer.Repeated) = false
sixteen (received answer.Accepted) = false
sixteen (fetched (fetch_answer.Refused n)) = eqb n 16
sixteen (fetched fetch_answer.NoneReady) = false
sixteen (fetched (fetch_answer.Message d)) = false

-- No call of a list shows it.
abbrev pub NoSixteen : List Shown → Type 0
NoSixteen [] = Unit {0}
NoSixteen (o ∷ os) = (sixteen o.answer ≡ false) × NoSixteen os

-- ------------------------------------------------------------------ the claim

-- After calls on a new receiver words and store stand for the model's receiver after the model's calls, the answers are the model's, and none is 16.
pub record Follows (i_data : Bool) (start : ℕ) (s : State) (cs : List Call) : Type 0 where
  pub represents : Represents (runs.after cs (new_receiver_words i_data start s)).words (runs.after cs (new_receiver_words i_data start s)).store
      (run.after (calls_of (length s.store) cs) (new_receiver (kind_of i_data) (length s.store) start))
  pub answers : answers_of (runs.run cs (new_receiver_words i_data start s)) ≡ run.run (calls_of (length s.store) cs) (new_receiver (kind_of i_data) (length s.store) start)
  pub no_sixteen : NoSixteen (runs.run cs (new_receiver_words i_data start s))

-- Of every receiver that creation and calls lead to.
abbrev pub Linked : Type 0
Linked = (i_data : Bool) (start : ℕ) (s : State) (cs : List Call) → Creates i_data start s → AllTyped (length s.store) cs → Follows i_data start s cs
