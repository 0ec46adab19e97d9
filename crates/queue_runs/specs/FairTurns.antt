-- Fair turns (request 11/13, second half), on the words and the store that the calls leave. Assumes nothing.
use Rattle.std.specs.Prelude.{ℕ, ◌+◌, ◌<◌, ◌≡◌, true, List, [], ◌∷◌, ◌++◌}
use Rattle.queue_model.specs.Types.{weighted}
use Rattle.queue_model.specs.Scheduler.{cost}
use Rattle.queue_model.specs.Waiting.{is_waiting}
use Rattle.queue_model.specs.FairTurns.{none_expired, times_below, Within, Open}
use Rattle.queue_words.specs.Header.{options_at, totals_at}
use Rattle.queue_questions.specs.Questions.{priority_of_words, amount_of_words, empty_of}
use Rattle.queue_streams.specs.Number as number_answer
use Rattle.queue_messages.specs.declared.message.Message.{Message}
use Rattle.queue_runs.specs.Calls.{Call, add, produce, Typed, Answer, Shown}
use Rattle.queue_runs.specs.Run.{State, step, run, after}
use Rattle.queue_runs.specs.Meaning.{queue_of}
use Rattle.queue_runs.specs.Creation.{Arguments}
use Rattle.queue_runs.specs.Demand3.{Reached}
use Rattle.queue_runs.specs.Account.{value_of, handed}

-- ------------------------------------------------------------------ the run

-- "with only adds and next fragments of exactly the payload limit in size, no expiry": the calls that the run may have, on the queue that they meet.
pub data Allowed (s : State) : Call → Type 0 where
  adds : (time : ℕ) (m : Message) (payload : List ℕ) → Allowed s (add time m payload)
  sends : (events buffer : List ℕ) (time : ℕ) → none_expired time (queue_of s) ≡ true → Allowed s (produce events buffer time (options_at s.words).payload_limit)

-- A call of the run; "finish times below 2^64 - 1". And a list of them.
pub record Turn (c : Call) (s : State) : Type 0 where
  pub typed : Typed c
  pub allowed : Allowed s c
  pub below : times_below (queue_of s) ≡ true

abbrev pub Turns : List Call → State → Type 0
Turns [] s = Unit {0}
Turns (c ∷ cs) s = Turn c s × Turns cs (step c s).next

-- A property of the state when each call of a list is made.
abbrev pub Throughout : (State → Type 0) → List Call → State → Type 0
Throughout P [] s = Unit {0}
Throughout P (c ∷ cs) s = P s × Throughout P cs (step c s).next

-- "any stretch in which two streams always wait": when each of its calls is made.
abbrev pub AlwaysWait : ℕ → ℕ → List Call → State → Type 0
AlwaysWait j k cs s = Throughout (λ (x : State). (is_waiting j (queue_of x) ≡ true) × (is_waiting k (queue_of x) ≡ true)) cs s

-- ------------------------------------------------------------------ the costs

-- What an answer charges to stream k, whose priority is p: the cost of the bytes that it hands out.
abbrev pub charge : ℕ → ℕ → Answer → ℕ
charge p k a = cost (weighted p) (handed k a)

-- "the costs charged", from what the calls of a list show.
unfoldable pub charged : ℕ → ℕ → List Shown → ℕ
unfolding cost
charged p k [] = 0
charged p k (o ∷ os) = charge p k o.answer + charged p k os

-- "the costs charged to them differ by at most the cost of one full fragment of each": by at most the sum of both. p and r are the priorities of j and k.
abbrev pub FairShare : ℕ → ℕ → ℕ → ℕ → ℕ → List Call → State → Type 0
FairShare limit j p k r during s = Within (cost (weighted p) limit + cost (weighted r) limit) (charged p j (run during s)) (charged r k (run during s))

-- ------------------------------------------------------------------ the claim

-- "The second starts at an empty queue, interleaving on, priorities fixed": any queue without messages that creation and calls lead to, and the priorities that the question answers there; no call of the run sets one.
pub record Starts (a : Arguments) (len : ℕ) (j p k r : ℕ) (s : State) : Type 0 where
  pub reached : Reached a len s
  pub empty : empty_of s.words ≡ true
  pub interleaved : (totals_at s.words).interleaving ≡ true
  pub first_priority : priority_of_words s.words j ≡ number_answer.Value p
  pub second_priority : priority_of_words s.words k ≡ number_answer.Value r

-- "with only adds and next fragments of exactly the payload limit in size, no expiry and finish times below 2^64 - 1. Over any stretch in which two streams always wait, the costs charged to them differ by at most
-- the cost of one full fragment of each."
unfoldable pub Request11Turns : Type 0
unfolding charged cost
Request11Turns =
    (a : Arguments) (len : ℕ) (s : State) (before during : List Call) (j k p r : ℕ)
    → Starts a len j p k r s → Turns (before ++ during) s → AlwaysWait j k during (after before s)
    → FairShare a.limit j p k r during (after before s)

-- ------------------------------------------------------------------ the same, by what a host sees

-- The question answers an amount above 0 for both when each call of the stretch is made.
abbrev pub AlwaysAbove : ℕ → ℕ → List Call → State → Type 0
AlwaysAbove j k cs s = Throughout (λ (x : State). (0 < value_of (amount_of_words x.words j)) × (0 < value_of (amount_of_words x.words k))) cs s

-- Two streams that are open where the run starts always wait while their amounts are above 0.
unfoldable pub Request11Seen : Type 0
unfolding charged cost
Request11Seen =
    (a : Arguments) (len : ℕ) (s : State) (before during : List Call) (j k p r : ℕ)
    → Starts a len j p k r s → Open j (queue_of s) → Open k (queue_of s) → Turns (before ++ during) s → AlwaysAbove j k during (after before s)
    → FairShare a.limit j p k r during (after before s)
