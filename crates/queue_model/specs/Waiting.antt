-- What a host sees of waiting (request 11/13, "any stretch in which two streams always wait"): an open stream waits exactly while its amount is above 0.
-- Assumes nothing.
use Rattle.std.specs.Prelude.{ℕ, ◌<◌, Bool, true, false, List, [], ◌∷◌, ◌≡◌, refl, ltb}
use Rattle.std.proofs.Math.Option.{none}
use Rattle.queue_model.specs.Logic.{is_some}
use Rattle.queue_model.specs.Table.{find}
use Rattle.queue_model.specs.Types.{PauseState, not_paused, pending, paused, resetting, Options, Queue}
use Rattle.queue_model.specs.Scheduler.{find_active}
use Rattle.queue_model.specs.Streams.{stream_at, new_queue}
use Rattle.queue_model.specs.Questions.{amount_of}
use Rattle.queue_model.specs.Run.{Call, add, close, ready_ids, set_interleaving, after}
use Rattle.queue_model.specs.Demands.{Reachable}
use Rattle.queue_model.specs.Account.{example_options}

-- "A stream waits while the scheduler lists it" (document 01).
unfoldable pub is_waiting : ℕ → Queue → Bool
unfolding find is_some
is_waiting k q = is_some (find_active k q.scheduler.active)

-- Whether a stream waits, told by its state and its amount. An open or a pending stream waits exactly while its amount is above 0. A paused or a
-- resetting one waits only while it is above 0, and
-- not always then: "closing to paused ends that, and messages added to a paused or resetting stream do not start it", but "switching interleaving, or a
-- discard, schedules a paused stream".
abbrev pub WaitsBy : PauseState → ℕ → Bool → Type 0
WaitsBy not_paused amount waits = waits ≡ ltb 0 amount
WaitsBy pending amount waits = waits ≡ ltb 0 amount
WaitsBy paused amount waits = waits ≡ true → 0 < amount
WaitsBy resetting amount waits = waits ≡ true → 0 < amount

-- Of every stream id, after any calls.
unfoldable pub WaitingSeen : Type 0
unfolding is_waiting amount_of
WaitingSeen = (o : Options) (q : Queue) (k : ℕ) → Reachable o q → WaitsBy (stream_at q k).pause_state (amount_of q k) (is_waiting k q)

-- ------------------------------------------------------------------ paused and resetting streams

-- Stream 5 is closed; it gets a message.
closes : Call
closes = close 2305 5

gets : Call
gets = add 9 0 (record { stream_id = 5; ppid = 0; unordered = false; max_retransmissions = none; lifetime = none; lifecycle_id = 0; payload = 7 ∷ [] })

-- What is shown of stream 5: its state, its amount, whether it waits.
record Seen : Type 0 where
  state : PauseState
  amount : ℕ
  waits : Bool

seen : List Call → Seen
unfolding after new_queue find amount_of is_waiting example_options
seen cs = let q = after cs (new_queue example_options) in record { state = (stream_at q 5).pause_state; amount = amount_of q 5; waits = is_waiting 5 q }

-- Either can be, in both states: a message added does not start it, a switch of interleaving does.
paused_silent : seen (closes ∷ gets ∷ []) ≡ record { state = paused; amount = 1; waits = false }
unfolding seen closes gets
paused_silent = refl

paused_waiting : seen (closes ∷ gets ∷ set_interleaving true ∷ []) ≡ record { state = paused; amount = 1; waits = true }
unfolding seen closes gets
paused_waiting = refl

resetting_silent : seen (closes ∷ ready_ids ∷ gets ∷ []) ≡ record { state = resetting; amount = 1; waits = false }
unfolding seen closes gets
resetting_silent = refl

resetting_waiting : seen (closes ∷ ready_ids ∷ gets ∷ set_interleaving true ∷ []) ≡ record { state = resetting; amount = 1; waits = true }
unfolding seen closes gets
resetting_waiting = refl
