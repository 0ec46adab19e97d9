-- Worked answers of the planner's call, as one table with one theorem; and a run. Assumes nothing.
use Rattle.std.specs.Prelude.{◌≡◌, refl, true, false, List, [], ◌∷◌, map, ℕ}
use Rattle.std.proofs.Math.Option.{none}
use Rattle.queue_model.specs.Types.{Options}
use Rattle.queue_model.specs.Streams.{new_queue}
use Rattle.queue_model.specs.Run.{run, after}
use Rattle.priority_plan.specs.PlannedPriorities.{PlannedPriorities}
use Rattle.priority_plan.specs.Works.{planned_streams, All}
use Rattle.priority_plan.specs.Plan.{refused_plan, made_plan, planned}
use Rattle.priority_plan.specs.Jobs.{Setting, interleaving, Adding, Later, ask, later_call, loaded}
use Rattle.priority_plan.specs.Turns.{streams_shown, firsts}
use Rattle.priority_plan.specs.Runs.{priorities_of, plan_settings}

pub record Row : Type 0 where
  pub limit : ℕ
  pub ids : List ℕ
  pub sizes : List ℕ
  pub answer : PlannedPriorities

unfoldable pub rows : List Row
rows =
    -- Two messages of the same cost: equal finish times go by id.
    record { limit = 1000; ids = 3 ∷ 5 ∷ []; sizes = 1500 ∷ 1500 ∷ []; answer = made_plan (1 ∷ 1 ∷ []) }
    -- The larger id first needs a smaller finish time.
    ∷ record { limit = 1000; ids = 5 ∷ 3 ∷ []; sizes = 1500 ∷ 1500 ∷ []; answer = made_plan (2 ∷ 1 ∷ []) }
    -- Sizes above the payload limit cost the same.
    ∷ record { limit = 1000; ids = 5 ∷ 3 ∷ []; sizes = 262144 ∷ 1000 ∷ []; answer = made_plan (2 ∷ 1 ∷ []) }
    -- The largest ratio of costs that the smaller id can make up for, and the larger id cannot.
    ∷ record { limit = 65535; ids = 1 ∷ 2 ∷ []; sizes = 65535 ∷ 1 ∷ []; answer = made_plan (65535 ∷ 1 ∷ []) }
    ∷ record { limit = 65535; ids = 2 ∷ 1 ∷ []; sizes = 65535 ∷ 1 ∷ []; answer = refused_plan 29 }
    -- Rising ids of equal cost.
    ∷ record { limit = 1; ids = 1 ∷ 2 ∷ 3 ∷ []; sizes = 1 ∷ 1 ∷ 1 ∷ []; answer = made_plan (1 ∷ 1 ∷ 1 ∷ []) }
    -- Falling ids and sizes: finish times 714,285 (rounded down), 750,000 and 1,000,000.
    ∷ record { limit = 10; ids = 9 ∷ 8 ∷ 7 ∷ []; sizes = 10 ∷ 3 ∷ 1 ∷ []; answer = made_plan (14 ∷ 4 ∷ 1 ∷ []) }
    -- One stream needs nothing.
    ∷ record { limit = 1; ids = 65535 ∷ []; sizes = 262144 ∷ []; answer = made_plan (1 ∷ []) }
    -- 28: empty, one id twice, a size outside, different counts.
    ∷ record { limit = 1; ids = []; sizes = []; answer = refused_plan 28 }
    ∷ record { limit = 1; ids = 4 ∷ 4 ∷ []; sizes = 1 ∷ 1 ∷ []; answer = refused_plan 28 }
    ∷ record { limit = 1; ids = 4 ∷ 6 ∷ 4 ∷ []; sizes = 1 ∷ 1 ∷ 1 ∷ []; answer = refused_plan 28 }
    ∷ record { limit = 1; ids = 4 ∷ []; sizes = 0 ∷ []; answer = refused_plan 28 }
    ∷ record { limit = 1; ids = 4 ∷ []; sizes = 262145 ∷ []; answer = refused_plan 28 }
    ∷ record { limit = 1; ids = 4 ∷ 5 ∷ []; sizes = 1 ∷ []; answer = refused_plan 28 }
    ∷ record { limit = 1; ids = 4 ∷ []; sizes = 1 ∷ 1 ∷ []; answer = refused_plan 28 }
    -- 1 before 28, and 28 before 29.
    ∷ record { limit = 0; ids = []; sizes = []; answer = refused_plan 1 }
    ∷ record { limit = 65536; ids = 2 ∷ 1 ∷ []; sizes = 65535 ∷ 1 ∷ []; answer = refused_plan 1 }
    ∷ record { limit = 65535; ids = 2 ∷ 1 ∷ 2 ∷ []; sizes = 65535 ∷ 1 ∷ 1 ∷ []; answer = refused_plan 28 }
    -- 32 ids pass, 33 do not.
    ∷ record { limit = 1; ids = 1 ∷ 2 ∷ 3 ∷ 4 ∷ 5 ∷ 6 ∷ 7 ∷ 8 ∷ 9 ∷ 10 ∷ 11 ∷ 12 ∷ 13 ∷ 14 ∷ 15 ∷ 16 ∷ 17 ∷ 18 ∷ 19 ∷ 20 ∷ 21 ∷ 22 ∷ 23 ∷ 24 ∷ 25 ∷ 26 ∷ 27 ∷ 28 ∷ 29 ∷ 30 ∷ 31 ∷ 32 ∷ []; sizes = 1 ∷ 1 ∷ 1 ∷ 1 ∷ 1 ∷ 1 ∷ 1 ∷ 1 ∷ 1 ∷ 1 ∷ 1 ∷ 1 ∷ 1 ∷ 1 ∷ 1 ∷ 1 ∷ 1 ∷ 1 ∷ 1 ∷ 1 ∷ 1 ∷ 1 ∷ 1 ∷ 1 ∷ 1 ∷ 1 ∷ 1 ∷ 1 ∷ 1 ∷ 1 ∷ 1 ∷ 1 ∷ []; answer = made_plan (1 ∷ 1 ∷ 1 ∷ 1 ∷ 1 ∷ 1 ∷ 1 ∷ 1 ∷ 1 ∷ 1 ∷ 1 ∷ 1 ∷ 1 ∷ 1 ∷ 1 ∷ 1 ∷ 1 ∷ 1 ∷ 1 ∷ 1 ∷ 1 ∷ 1 ∷ 1 ∷ 1 ∷ 1 ∷ 1 ∷ 1 ∷ 1 ∷ 1 ∷ 1 ∷ 1 ∷ 1 ∷ []) }
    ∷ record { limit = 1; ids = 1 ∷ 2 ∷ 3 ∷ 4 ∷ 5 ∷ 6 ∷ 7 ∷ 8 ∷ 9 ∷ 10 ∷ 11 ∷ 12 ∷ 13 ∷ 14 ∷ 15 ∷ 16 ∷ 17 ∷ 18 ∷ 19 ∷ 20 ∷ 21 ∷ 22 ∷ 23 ∷ 24 ∷ 25 ∷ 26 ∷ 27 ∷ 28 ∷ 29 ∷ 30 ∷ 31 ∷ 32 ∷ 33 ∷ []; sizes = 1 ∷ 1 ∷ 1 ∷ 1 ∷ 1 ∷ 1 ∷ 1 ∷ 1 ∷ 1 ∷ 1 ∷ 1 ∷ 1 ∷ 1 ∷ 1 ∷ 1 ∷ 1 ∷ 1 ∷ 1 ∷ 1 ∷ 1 ∷ 1 ∷ 1 ∷ 1 ∷ 1 ∷ 1 ∷ 1 ∷ 1 ∷ 1 ∷ 1 ∷ 1 ∷ 1 ∷ 1 ∷ 1 ∷ []; answer = refused_plan 28 }
    ∷ []

pub rows_right : All (λ (r : Row). planned r.limit r.ids r.sizes ≡ r.answer) rows
unfolding rows planned
rows_right = (refl, (refl, (refl, (refl, (refl, (refl, (refl, (refl, (refl, (refl, (refl, (refl, (refl, (refl, (refl, (refl, (refl, (refl, (refl, (refl, tt))))))))))))))))))))

-- ------------------------------------------------------------------ a run

-- Streams 5 and then 3, each with a first message of 3 bytes, at payload limit 2: priorities 2 and 1 give the finish times 1,000,000 and 2,000,000.
pub job_options : Options
job_options = record { payload_limit = 2; store_length = 9; default_priority = 256; default_threshold = 0; total_threshold = 0; handover_with_data = true; strict_restart = false }

pub three_bytes : ℕ → Adding
three_bytes k = record { store = 9; now = 0; message = record { stream_id = k; ppid = 0; unordered = false; max_retransmissions = none; lifetime = none; lifecycle_id = 0; payload = 7 ∷ 8 ∷ 9 ∷ [] } }

pub two_bytes : Later
two_bytes = ask (record { store = 9; places = 2305; buffer = 2; now = 0; size = 2 })

unfoldable pub shown_with : List Setting → List ℕ
unfolding run after new_queue streams_shown job_options three_bytes two_bytes
shown_with ss = streams_shown (run (map later_call (two_bytes ∷ two_bytes ∷ two_bytes ∷ two_bytes ∷ two_bytes ∷ [])) (loaded job_options ss (three_bytes 3 ∷ three_bytes 5 ∷ [])))

-- As planned, and by the default priority.
planned_run : shown_with (plan_settings (planned_streams (5 ∷ 3 ∷ []) (3 ∷ 3 ∷ [])) (2 ∷ 1 ∷ [])) ≡ 5 ∷ 5 ∷ 3 ∷ 3 ∷ []
unfolding shown_with planned_streams priorities_of
planned_run = refl

plain_run : shown_with (interleaving true ∷ []) ≡ 3 ∷ 5 ∷ 3 ∷ 5 ∷ []
unfolding shown_with
plain_run = refl

-- Streams that come out of order are not in turn.
order_kept : firsts (5 ∷ 3 ∷ []) (5 ∷ 5 ∷ 3 ∷ 3 ∷ []) ≡ 5 ∷ 3 ∷ []
unfolding firsts
order_kept = refl

order_broken : firsts (5 ∷ 3 ∷ []) (3 ∷ 5 ∷ 3 ∷ 5 ∷ []) ≡ 3 ∷ 5 ∷ []
unfolding firsts
order_broken = refl
