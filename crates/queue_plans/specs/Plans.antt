-- Request 13/13 on the code: what the priorities that the planner's call answers do on a queue. Assumes nothing.
use Rattle.std.specs.Prelude.{ℕ, ◌<◌, ◌^◌, ◌≡◌, false, List, map, length}
use Rattle.queue_questions.specs.Questions.{total_of}
use Rattle.queue_runs.specs.Calls.{Shown}
use Rattle.queue_runs.specs.Run.{State, run}
use Rattle.queue_runs.specs.Creation.{Arguments, new_state, Creates}
use Rattle.queue_runs.specs.Refusals.{refusal}
use Rattle.priority_plan.specs.Works.{All, IsPriority, AtMostEach}
use Rattle.priority_plan.specs.Plan.{planned, made_plan, refused_plan}
use Rattle.priority_plan.specs.Turns.{firsts}
use Rattle.queue_plans.specs.Jobs.{settings, Adding, Asking, asking_call, Later, ask, later_call, loaded, Accepted, Load, Timely}
use Rattle.queue_plans.specs.FirstFragments.{streams_shown, InTurn}

-- ------------------------------------------------------------------ what priorities do on a queue

-- "put those first fragments in that order": in every run of next fragments, of whatever sizes, and of more messages, refused calls included.
unfoldable pub KeepsOrder : Arguments → State → List ℕ → List ℕ → List Adding → Type 0
KeepsOrder a s ids ps ms = (xs : List Later) → Timely (length s.store) ms xs → InTurn ids (run (map later_call xs) (loaded a s ids ps ms))

-- More next fragments, none of them refused, than bytes wait: every stream of the list gets its first fragment, in the list's order.
unfoldable pub ServesAll : Arguments → State → List ℕ → List ℕ → List Adding → Type 0
ServesAll a s ids ps ms =
    (xs : List Asking) → Timely (length s.store) ms (map ask xs)
    → All (λ (o : Shown). refusal o.answer ≡ false) (run (map asking_call xs) (loaded a s ids ps ms))
    → total_of (loaded a s ids ps ms).words < length xs
    → firsts ids (streams_shown (run (map asking_call xs) (loaded a s ids ps ms))) ≡ ids

-- ------------------------------------------------------------------ the priorities given

-- They are accepted; and where the messages are, the first fragments come in the list's order.
pub record PlanWorks (a : Arguments) (s : State) (ids sizes ps : List ℕ) : Type 0 where
  pub settings_accepted : Accepted (run (settings ids ps) (new_state a s))
  pub keeps_order : (ms : List Adding) → Load a s ids sizes ps ms → KeepsOrder a s ids ps ms
  pub serves_all : (ms : List Adding) → Load a s ids sizes ps ms → ServesAll a s ids ps ms

-- "From the payload limit, the stream ids in that order and each first message's size, give priorities from 1 to 65,535 which, set on a new interleaving
-- queue before the messages
-- are added, make the scheduler's finish times and ids put those first fragments in that order, if all those messages are accepted."
unfoldable pub Request13Plan : Type 0
Request13Plan =
    (a : Arguments) (s : State) (ids sizes ps : List ℕ)
    → Creates a s → All (λ (i : ℕ). i < 2 ^ 16) ids → planned a.limit ids sizes ≡ made_plan ps
    → PlanWorks a s ids sizes ps

-- ------------------------------------------------------------------ and no smaller ones

-- A set of priorities that works by what the calls show: one from 1 to 65,535 for each stream, with which messages that are accepted get their first
-- fragments in the list's order.
pub record WorkingSet (a : Arguments) (s : State) (ids sizes qs : List ℕ) (ms : List Adding) : Type 0 where
  pub one_each : length qs ≡ length ids
  pub allowed : All IsPriority qs
  pub load : Load a s ids sizes qs ms
  pub keeps_order : KeepsOrder a s ids qs ms

-- "Each priority is the least that any working set has for that stream."; "29 when no set of priorities works".
pub record LeastOnes (a : Arguments) (s : State) (ids sizes : List ℕ) : Type 0 where
  pub least : (ps qs : List ℕ) (ms : List Adding) → planned a.limit ids sizes ≡ made_plan ps → WorkingSet a s ids sizes qs ms → AtMostEach ps qs
  pub none_works : (qs : List ℕ) (ms : List Adding) → planned a.limit ids sizes ≡ refused_plan 29 → WorkingSet a s ids sizes qs ms → ⊥

unfoldable pub Request13Least : Type 0
Request13Least = (a : Arguments) (s : State) (ids sizes : List ℕ) → Creates a s → All (λ (i : ℕ). i < 2 ^ 16) ids → LeastOnes a s ids sizes
