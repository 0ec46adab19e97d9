-- What the questions promise. Assumes nothing.
use Rattle.std.specs.Prelude.{ℕ, ◌≡◌, Bool, false, List}
use Rattle.queue_model.specs.Types.{Answer, refused, done, number, flag, ids, fragment, nothing_waits, filled}
use Rattle.queue_model.specs.Answers.{answer_number, answer_value, answer_flag}
use Rattle.queue_model.specs.Questions.{Room}
use Rattle.queue_model.specs.Calls
use Rattle.queue_model.specs.Run as run
use Rattle.queue_questions.specs.Questions.{priority_of_words, amount_of_words, threshold_of, total_of, empty_of, data_of, ready_of, readiness_of, room_of}
use Rattle.queue_streams.specs.Answers.{number_number, number_value, flag_number, flag_value}
use Rattle.queue_streams.specs.Flag.{Flag}
use Rattle.queue_streams.specs.Flag as flag_answer
use Rattle.queue_streams.specs.Number.{Number}
use Rattle.queue_state.specs.Good.{Good}
use Rattle.queue_state.specs.Model.{model}
use Rattle.queue_state.specs.Promise.{shown, number_of}

-- A question for yes or no: the model's answer.
abbrev pub flag_of : Answer → Flag
flag_of (refused n) = flag_answer.Refused n
flag_of done = flag_answer.Value false
flag_of (number m) = flag_answer.Value false
flag_of (flag b) = flag_answer.Value b
flag_of (ids l) = flag_answer.Value false
flag_of (fragment f) = flag_answer.Value false
flag_of nothing_waits = flag_answer.Value false
flag_of (filled bs n) = flag_answer.Value false

-- A question answers r: for every input w, the definition on the words; on the words of a queue, with the store st, m st, the model's. It changes nothing.
pub record Asked {A : Type 0} (ws : List ℕ) (r w : A) (m : List ℕ → A) : Type 0 where
  pub words : r ≡ w
  pub model : (st : List ℕ) → Good ws st → r ≡ m st

-- "If an answer is an enum, a definition states this paper's number and values for each case of the enum. The promises use that definition." A question
-- c that a broken state can refuse: the same, and the answer's number and value are the model's.
pub record AskedNumber (c : run.Call) (ws : List ℕ) (r w : Number) : Type 0 where
  pub words : r ≡ w
  pub model : (st : List ℕ) → Good ws st → r ≡ number_of (shown c ws st).answer
  pub number : (st : List ℕ) → Good ws st → number_number r ≡ answer_number (shown c ws st).answer
  pub value : (st : List ℕ) → Good ws st → number_value r ≡ answer_value (shown c ws st).answer

pub record AskedFlag (c : run.Call) (ws : List ℕ) (r w : Flag) : Type 0 where
  pub words : r ≡ w
  pub model : (st : List ℕ) → Good ws st → r ≡ flag_of (shown c ws st).answer
  pub number : (st : List ℕ) → Good ws st → flag_number r ≡ answer_number (shown c ws st).answer
  pub value : (st : List ℕ) → Good ws st → flag_value r ≡ answer_flag (shown c ws st).answer

-- "A call of its own answers the priority last set or restored, the default where there is none, and changes nothing."
abbrev pub PriorityMeets : List ℕ → ℕ → Number → Type 0
PriorityMeets ws id r = AskedNumber (run.ask_priority id) ws r (priority_of_words ws id)

-- A stream's amount, 0 where it is not known.
abbrev pub AmountMeets : List ℕ → ℕ → Number → Type 0
AmountMeets ws id r = AskedNumber (run.ask_amount id) ws r (amount_of_words ws id)

-- A stream's threshold, the default where it is not known.
abbrev pub ThresholdMeets : List ℕ → ℕ → Number → Type 0
ThresholdMeets ws id r = AskedNumber (run.ask_threshold id) ws r (threshold_of ws id)

-- The total, and whether it is 0.
abbrev pub TotalMeets : List ℕ → ℕ → Type 0
TotalMeets ws r = Asked ws r (total_of ws) (λ st. (model ws st).total)

abbrev pub EmptyMeets : List ℕ → Bool → Type 0
EmptyMeets ws r = Asked ws r (empty_of ws) (λ st. Calls.is_empty (model ws st))

-- Whether a stream waits.
abbrev pub DataMeets : List ℕ → Flag → Type 0
DataMeets ws r = AskedFlag run.ask_has_data ws r (data_of ws)

-- Whether a stream is paused.
abbrev pub ReadyMeets : List ℕ → Flag → Type 0
ReadyMeets ws r = AskedFlag run.ask_streams_ready ws r (ready_of ws)

-- "Readiness is 2 if handover with waiting data is off and the total is above 0, else 0."
abbrev pub ReadinessMeets : List ℕ → ℕ → Type 0
ReadinessMeets ws r = Asked ws r (readiness_of ws) (λ st. Calls.readiness (model ws st))

-- How much there is of what may run out: free bytes, waiting messages, known streams.
abbrev pub RoomMeets : Room → List ℕ → ℕ → Type 0
RoomMeets k ws r = Asked ws r (room_of k ws) (λ st. Calls.room_of k (model ws st))
