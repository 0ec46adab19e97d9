-- Fair turns (request 11/13, second half): over any stretch in which two streams always wait, the costs charged to them differ by at most the cost of
-- one full fragment of
-- each. Assumes nothing.
use Rattle.std.specs.Prelude.{ℕ, ◌+◌, ◌≤◌, ◌<◌, Bool, true, not, List, [], ◌∷◌, ◌++◌, ◌≡◌, refl, leb}
use Rattle.queue_model.specs.Logic.{any}
use Rattle.queue_model.specs.Types.{Item, not_paused, Stream, weighted, Active, Options, Queue, Message, Answer, Outcome, expired}
use Rattle.queue_model.specs.Scheduler.{cost}
use Rattle.queue_model.specs.Streams.{stream_at}
use Rattle.queue_model.specs.Refusals.{max_word}
use Rattle.queue_model.specs.Questions.{priority_of, amount_of, is_empty}
use Rattle.queue_model.specs.Run.{Call, add, produce, step, run, after}
use Rattle.queue_model.specs.Demands.{Typed, Reachable}
use Rattle.queue_model.specs.Account.{for_stream, handed}
use Rattle.queue_model.specs.Waiting.{is_waiting}

-- ------------------------------------------------------------------ the run

-- "no expiry": no message that waits has expired at this time.
unfoldable pub none_expired : ℕ → Queue → Bool
unfolding any
none_expired now q = not (any (λ (s : Stream). any (λ (i : Item). expired now i.expires_at) s.items) q.streams)

-- "with only adds and next fragments of exactly the payload limit in size, no expiry": the calls that the run may have, on the queue that they meet.
pub data Allowed (q : Queue) : Call → Type 0 where
  adds : (store now : ℕ) (m : Message) → Allowed q (add store now m)
  sends : (store places buffer now : ℕ) → none_expired now q ≡ true → Allowed q (produce store places buffer now q.options.payload_limit)

-- "finish times below 2^64 - 1".
unfoldable pub times_below : Queue → Bool
unfolding any
times_below q = not (any (λ (a : Active). leb max_word a.finish) q.scheduler.active)

-- A call of the run, on the queue that it meets; and a list of them.
pub record Turn (c : Call) (q : Queue) : Type 0 where
  pub typed : Typed c
  pub allowed : Allowed q c
  pub below : times_below q ≡ true

abbrev pub Turns : List Call → Queue → Type 0
Turns [] q = Unit {0}
Turns (c ∷ cs) q = Turn c q × Turns cs (step c q).next

-- ------------------------------------------------------------------ the stretch

-- A property of the queue when each call of a list is made.
abbrev pub Throughout : (Queue → Type 0) → List Call → Queue → Type 0
Throughout P [] q = Unit {0}
Throughout P (c ∷ cs) q = P q × Throughout P cs (step c q).next

-- "any stretch in which two streams always wait": when each of its calls is made. So its last call may be the one that ends a stream's waiting; one that
-- hands out a last fragment and lets the stream begin anew with
-- the message behind it does not end the stretch.
abbrev pub AlwaysWait : ℕ → ℕ → List Call → Queue → Type 0
AlwaysWait j k cs q = Throughout (λ (r : Queue). (is_waiting j r ≡ true) × (is_waiting k r ≡ true)) cs q

-- ------------------------------------------------------------------ the costs

-- What an answer charges to stream k, whose priority is p: the cost of the bytes that it hands out, "bytes × 1,000,000 / weight rounded down, weight 0
-- counting as 1".
abbrev pub charge : ℕ → ℕ → Answer → ℕ
charge p k a = cost (weighted p) (handed k a)

-- "the costs charged", from what the calls of a list show.
unfoldable pub charged : ℕ → ℕ → List Outcome → ℕ
unfolding cost for_stream
charged p k [] = 0
charged p k (o ∷ os) = charge p k o.answer + charged p k os

-- "the cost of one full fragment": of as many bytes as the payload limit.
abbrev pub full_cost : ℕ → Queue → ℕ
full_cost k q = cost (weighted (priority_of q k)) q.options.payload_limit

-- Two numbers differ by at most n.
pub record Within (n a b : ℕ) : Type 0 where
  pub first : a ≤ b + n
  pub second : b ≤ a + n

-- "the costs charged to them differ by at most the cost of one full fragment of each": by at most the sum of both, which is reached (`bound_reached`,
-- proofs/FairTurns/Tight). The run starts at q; the stretch is the
-- calls `during`, from the queue `r` on.
abbrev pub FairShare : Queue → ℕ → ℕ → List Call → Queue → Type 0
FairShare q j k during r = Within (full_cost j q + full_cost k q) (charged (priority_of q j) j (run during r)) (charged (priority_of q k) k (run during r))

-- A planner's figure: payload limit 1,200, priorities 256 and 512. The bound is 7,031,250: what 1,800 bytes cost at priority 256, and 3,600 bytes at
-- priority 512.
planner_figure : (cost (weighted 256) 1200 + cost (weighted 512) 1200 ≡ 7031250) × ((cost (weighted 256) 1800 ≡ 7031250) × (cost (weighted 512) 3600 ≡ 7031250))
unfolding cost
planner_figure = (refl, (refl, refl))

-- ------------------------------------------------------------------ the claim

-- "The second starts at an empty queue, interleaving on, priorities fixed": any queue without messages that creation and calls lead to; no call of the
-- run sets a priority.
pub record Starts (o : Options) (q : Queue) : Type 0 where
  pub reachable : Reachable o q
  pub empty : is_empty q ≡ true
  pub interleaved : q.interleaving ≡ true

-- "with only adds and next fragments of exactly the payload limit in size, no expiry and finish times below 2^64 - 1. Over any stretch in which two
-- streams always wait, the costs charged to them differ by at most
-- the cost of one full fragment of each."
unfoldable pub Request11Turns : Type 0
unfolding charged cost priority_of is_empty after run
Request11Turns =
    (o : Options) (q : Queue) (before during : List Call) (j k : ℕ)
    → Starts o q → Turns (before ++ during) q → AlwaysWait j k during (after before q)
    → FairShare q j k during (after before q)

-- ------------------------------------------------------------------ the same, by what a host sees

-- The amounts of both are above 0 when each call of the stretch is made.
abbrev pub AlwaysAbove : ℕ → ℕ → List Call → Queue → Type 0
AlwaysAbove j k cs q = Throughout (λ (r : Queue). (0 < amount_of r j) × (0 < amount_of r k)) cs q

abbrev pub Open : ℕ → Queue → Type 0
Open k q = (stream_at q k).pause_state ≡ not_paused

-- Two streams that are open where the run starts always wait while their amounts are above 0.
unfoldable pub Request11Seen : Type 0
unfolding charged cost priority_of is_empty amount_of after run
Request11Seen =
    (o : Options) (q : Queue) (before during : List Call) (j k : ℕ)
    → Starts o q → Open j q → Open k q → Turns (before ++ during) q → AlwaysAbove j k during (after before q)
    → FairShare q j k during (after before q)
