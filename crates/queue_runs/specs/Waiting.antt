-- What a host sees of waiting (request 11/13), on the words that the calls leave: an open stream waits exactly while the amount that the question answers is above 0. Assumes nothing.
use Rattle.std.specs.Prelude.{ℕ, ◌≡◌}
use Rattle.queue_model.specs.Streams.{stream_at}
use Rattle.queue_model.specs.Waiting.{is_waiting, WaitsBy}
use Rattle.queue_questions.specs.Questions.{amount_of_words}
use Rattle.queue_streams.specs.Number as number_answer
use Rattle.queue_runs.specs.Run.{State}
use Rattle.queue_runs.specs.Meaning.{queue_of}
use Rattle.queue_runs.specs.Creation.{Arguments}
use Rattle.queue_runs.specs.Demand3.{Reached}

-- The question answers an amount; by it and the stream's state it is told whether the stream waits (`WaitsBy`: what holds of pending, paused and resetting streams too).
pub record Seen (k : ℕ) (s : State) : Type 0 where
  pub amount : ℕ
  pub answers : amount_of_words s.words k ≡ number_answer.Value amount
  pub waits_by : WaitsBy (stream_at (queue_of s) k).pause_state amount (is_waiting k (queue_of s))

abbrev pub WaitingSeen : Type 0
WaitingSeen = (a : Arguments) (len : ℕ) (s : State) (k : ℕ) → Reached a len s → Seen k s
