-- The account of a stream's bytes (request 11/13, first half), of the code's calls and of what they show, on the words that they leave. Assumes nothing.
use Rattle.std.specs.Prelude.{ℕ, zero, suc, ◌+◌, ◌^◌, ◌≡◌, List, [], ◌∷◌, length}
use Rattle.types.specs.Keys.{key_id}
use Rattle.std.specs.Prelude.{if◌then◌else◌}
use Rattle.queue_model.specs.Table.{find}
use Rattle.queue_model.specs.Streams.{stream_at, waiting}
use Rattle.queue_model.specs.Close.{closing_bytes}
use Rattle.queue_model.specs.Reset.{model_put_back}
use Rattle.queue_model.specs.Reader.{read_image}
use Rattle.queue_model.specs.Account.{Account, no_bytes, both, for_stream, passed, head_bytes, image_left, fill_account}
use Rattle.queue_model.specs.Fill.{filling}
use Rattle.queue_streams.specs.Events.{places_in}
use Rattle.queue_questions.specs.Questions.{amount_of_words, total_of}
use Rattle.queue_streams.specs.Number.{Number}
use Rattle.queue_streams.specs.Number as number_answer
use Rattle.queue_sending.specs.Produced.{Produced}
use Rattle.queue_sending.specs.Produced as produced
use Rattle.queue_runs.specs.Calls.{Call, add, produce, fill, discard, close, ready_ids, commit, rollback, reset, set_threshold, set_priority, set_interleaving, restore, ask_priority, ask_amount, ask_threshold, ask_total, ask_empty, ask_has_data, ask_streams_ready, ask_ready_count, ask_readiness, ask_room, Answer, called, sent, filled, readied, number, flag, count, truth}
use Rattle.queue_runs.specs.Run.{State, step, after}
use Rattle.queue_runs.specs.Meaning.{AllTyped, queue_of}
use Rattle.queue_runs.specs.Refusals.{refusal}
use Rattle.queue_runs.specs.Creation.{Arguments, new_state, Creates}

-- ------------------------------------------------------------------ one call

-- The bytes of stream k that an answer hands out; those of a filling are counted call by call.
abbrev pub handed_sent : ℕ → Produced → ℕ
handed_sent k (produced.Nothing n) = 0
handed_sent k (produced.Fragment n d) = for_stream k (key_id d.«data».stream_key).0 d.«data».length
handed_sent k (produced.Refused n) = 0

abbrev pub handed : ℕ → Answer → ℕ
handed k (called a) = 0
handed k (sent a) = handed_sent k a
handed k (filled a) = 0
handed k (readied r) = 0
handed k (number a) = 0
handed k (flag a) = 0
handed k (count n) = 0
handed k (truth b) = 0

-- Bytes that move unless the call is refused.
abbrev pub unless_refused_words : Answer → ℕ → ℕ
unless_refused_words a n = if refusal a then 0 else n

-- What one call moves in stream k. As in the model's `account`, but the answers are the code's own; the messages that wait are those of the queue that words and store stand for.
unfoldable pub account : ℕ → Call → State → Account
unfolding for_stream passed fill_account filling head_bytes closing_bytes image_left read_image find model_put_back
account k (add time m payload) s = record { accepted = unless_refused_words (step (add time m payload) s).shows.answer (for_stream k m.stream_id.0 (length payload)); handed_out = 0; dropped_unsent = 0; put_back_whole = 0; left_to_send = 0 }
account k (produce es bs time size) s =
    let a = (step (produce es bs time size) s).shows.answer in
    record { accepted = 0; handed_out = handed k a; dropped_unsent = unless_refused_words a (passed k (suc (waiting (queue_of s).streams)) time (queue_of s)); put_back_whole = 0; left_to_send = 0 }
account k (fill es bs time p) s =
    if refusal (step (fill es bs time p) s).shows.answer then no_bytes
    else fill_account k (length s.store) (places_in es) time (filling (length s.store) (places_in es) time p.limit (queue_of s)).sizes (queue_of s)
account k (discard es id m) s = record { accepted = 0; handed_out = 0; dropped_unsent = unless_refused_words (step (discard es id m) s).shows.answer (for_stream k id (head_bytes m (stream_at (queue_of s) id).items)); put_back_whole = 0; left_to_send = 0 }
account k (close es id) s = record { accepted = 0; handed_out = 0; dropped_unsent = unless_refused_words (step (close es id) s).shows.answer (for_stream k id (closing_bytes (stream_at (queue_of s) id).pause_state (stream_at (queue_of s) id).items)); put_back_whole = 0; left_to_send = 0 }
account k ready_ids s = no_bytes
account k commit s = no_bytes
account k rollback s = no_bytes
account k reset s = record { accepted = 0; handed_out = 0; dropped_unsent = 0; put_back_whole = unless_refused_words (step reset s).shows.answer (model_put_back (stream_at (queue_of s) k).items); left_to_send = 0 }
account k (set_threshold es id t) s = no_bytes
account k (set_priority id p) s = no_bytes
account k (set_interleaving b) s = no_bytes
account k (restore time image) s = record { accepted = 0; handed_out = 0; dropped_unsent = 0; put_back_whole = 0; left_to_send = unless_refused_words (step (restore time image) s).shows.answer (image_left k (read_image image)) }
account k (ask_priority id) s = no_bytes
account k (ask_amount id) s = no_bytes
account k (ask_threshold id) s = no_bytes
account k ask_total s = no_bytes
account k ask_empty s = no_bytes
account k ask_has_data s = no_bytes
account k ask_streams_ready s = no_bytes
account k ask_ready_count s = no_bytes
account k ask_readiness s = no_bytes
account k (ask_room r) s = no_bytes

-- The same of a list of calls.
unfoldable pub accounts : ℕ → List Call → State → Account
unfolding account
accounts k [] s = no_bytes
accounts k (c ∷ cs) s = both (account k c s) (accounts k cs (step c s).next)

-- ------------------------------------------------------------------ the claim

-- The number that a question answers, 0 where it is refused.
abbrev pub value_of : Number → ℕ
value_of (number_answer.Value n) = n
value_of (number_answer.Refused r) = 0

-- The sum of a measure over the ids below n.
unfoldable pub sum_ids : (ℕ → ℕ) → ℕ → ℕ
sum_ids f zero = 0
sum_ids f (suc n) = sum_ids f n + f n

-- Stream ids have 16 bits.
abbrev pub id_count : ℕ
id_count = 2 ^ 16

-- The question answers the amount that the account gives: what came in less what went out. "the total is the sum over the streams": of what the questions answer, over all ids.
pub record Accounted (k : ℕ) (a : Account) (s : State) : Type 0 where
  pub amount : ℕ
  pub answers : amount_of_words s.words k ≡ number_answer.Value amount
  pub amount_is : amount + (a.handed_out + a.dropped_unsent) ≡ a.accepted + (a.put_back_whole + a.left_to_send)
  pub total_is : total_of s.words ≡ sum_ids (λ (j : ℕ). value_of (amount_of_words s.words j)) id_count

-- "from a new queue, after any calls, a stream's amount is the payload bytes it accepted, less those handed out, less the unsent ones of dropped messages, plus those put back
-- and those left to send in an image it restored, each counted from the call history; the total is the sum over the streams."
unfoldable pub Request11Account : Type 0
unfolding accounts sum_ids
Request11Account =
    (a : Arguments) (s : State) (cs : List Call) (k : ℕ) → Creates a s → AllTyped cs
    → Accounted k (accounts k cs (new_state a s)) (after cs (new_state a s))
