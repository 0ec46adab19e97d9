-- The bound of fair turns is reached: a run that meets every premise, in which the costs charged to two streams differ by exactly one full fragment of
-- each. Assumes nothing.
use mathlib.Core.Path.{◌≡◌, refl, ap, subst}
use mathlib.Core.Bool.{true, false}
use mathlib.Core.List.{List, [], ◌∷◌, ◌++◌}
use mathlib.Core.Option.{none}
use Prim.Native.Nat.{ℕ, ◌+◌, ◌<◌, ◌^◌}
use native.Mathlib.Omega.{arith}
use lib.Dec.{T}
use lib.ListN.{take}
use lib.Pow.{are_bytes}
use Rattle.queue_model.specs.Types.{Options, Queue, Message}
use Rattle.queue_model.specs.Refusals.{create_refusal}
use Rattle.queue_model.specs.Questions.{priority_of, is_empty}
use Rattle.queue_model.specs.Run.{Call, add, produce, set_interleaving, step, run, after}
use Rattle.queue_model.specs.Demands.{Reachable, created, called, fresh}
use Rattle.queue_model.specs.Waiting.{is_waiting}
use Rattle.queue_model.specs.FairTurns.{Allowed, adds, sends, none_expired, times_below, Turn, Turns, AlwaysWait, charged, full_cost}

-- Payload limit 1, default priority 1: a full fragment costs 1,000,000.
abbrev pub options : Options
options = record { payload_limit = 1; store_length = 9; default_priority = 1; default_threshold = 0; total_threshold = 0; handover_with_data = true; strict_restart = false }

pub message : ℕ → List ℕ → Message
message k bytes = record { stream_id = k; ppid = 0; unordered = false; max_retransmissions = none; lifetime = none; lifecycle_id = 0; payload = bytes }

abbrev pub start : Queue
start = fresh options true

pub next : Call
next = produce 9 2305 1 0 1

-- Stream 1 is sent first and moves the system time to the finish of stream 2; then stream 3 begins to wait there.
pub before : List Call
unfolding message next
before = add 9 0 (message 1 (7 ∷ [])) ∷ add 9 0 (message 2 (7 ∷ 7 ∷ 7 ∷ [])) ∷ next ∷ add 9 0 (message 3 (7 ∷ [])) ∷ []

-- Stream 2 is sent from twice, the second time because its id is smaller.
pub during : List Call
unfolding next
during = next ∷ next ∷ []

pub start_reached : Reachable options start
unfolding fresh create_refusal
start_reached = called (created (record { accepted = refl; default_priority = omega arith; default_threshold = omega arith; total_threshold = omega arith })) (set_interleaving true) tt

pub start_empty : is_empty start ≡ true
unfolding fresh is_empty
start_empty = refl

pub start_interleaved : start.interleaving ≡ true
unfolding fresh
start_interleaved = refl

-- Every premise holds.
next_turn : (q : Queue) → q.options ≡ options → none_expired 0 q ≡ true → times_below q ≡ true → Turn next q
unfolding next
next_turn q o e b = record { typed = (omega arith, (omega arith, (omega arith, (omega arith, omega arith)))); allowed = subst (λ (n : ℕ). Allowed q (produce 9 2305 1 0 n)) (ap (λ (x : Options). x.payload_limit) o) (sends 9 2305 1 0 e); below = b }

add_turn : (k : ℕ) (bytes : List ℕ) (q : Queue) → k < 2 ^ 16 → T (are_bytes bytes) → times_below q ≡ true → Turn (add 9 0 (message k bytes)) q
unfolding message
add_turn k bytes q h d b = record { typed = (omega arith, (omega arith, record { stream_id = h; ppid = omega arith; max_retransmissions = omega arith; lifetime = omega arith; lifecycle_id = omega arith; payload = d })); allowed = adds 9 0 (message k bytes); below = b }

pub turns : Turns (before ++ during) start
unfolding before during message next fresh step after none_expired times_below
turns = (
  add_turn 1 (7 ∷ []) start (omega arith) tt refl,
  (
    add_turn 2 (7 ∷ 7 ∷ 7 ∷ []) (after (take 1 before) start) (omega arith) tt refl,
    (
      next_turn (after (take 2 before) start) refl refl refl,
      (
        add_turn 3 (7 ∷ []) (after (take 3 before) start) (omega arith) tt refl,
        (
          next_turn (after before start) refl refl refl,
          (
            next_turn (after (take 1 during) (after before start)) refl refl refl,
            tt,
          ),
        ),
      ),
    ),
  ),
)

pub waits : AlwaysWait 2 3 during (after before start)
unfolding before during fresh step after is_waiting
waits = ((refl, refl), ((refl, refl), tt))

-- And the costs differ by as much as they may.
pub bound_reached : charged (priority_of start 2) 2 (run during (after before start)) ≡ charged (priority_of start 3) 3 (run during (after before start)) + (full_cost 2 start + full_cost 3 start)
unfolding before during fresh run after charged priority_of
bound_reached = refl
