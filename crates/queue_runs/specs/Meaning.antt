-- What a call shows, by what the model's call shows. Assumes nothing.
use Rattle.std.specs.Prelude.{ℕ, ◌≡◌, Bool, false, List, [], ◌∷◌, length}
use Rattle.queue_model.specs.Types as plain
use Rattle.queue_model.specs.Types.{Outcome}
use Rattle.queue_model.specs.Run as run
use Rattle.queue_streams.specs.Events.{written}
use Rattle.queue_state.specs.Model.{model}
use Rattle.queue_state.specs.Good as state
use Rattle.queue_state.specs.Promise as promise
use Rattle.linked_streams.specs.Questions.{flag_of}
use Rattle.linked_restarts.specs.Ids.{ready_of}
use Rattle.linked_sending.specs.Meaning.{produced_of, buffer_of}
use Rattle.linked_packets.specs.Meaning.{filled_of}
use Rattle.queue_runs.specs.Calls.{Call, add, produce, fill, discard, close, ready_ids, commit, rollback, reset, set_threshold, set_priority, set_interleaving, restore, ask_priority, ask_amount, ask_threshold, ask_total, ask_empty, ask_has_data, ask_streams_ready, ask_ready_count, ask_readiness, ask_room, call_of, Typed, Shown, shown, called, sent, filled, readied, number, flag, count, truth}
use Rattle.queue_runs.specs.Run as runs
use Rattle.queue_runs.specs.Run.{State}

-- ------------------------------------------------------------------ states

-- The queue that a state stands for.
abbrev pub queue_of : State → plain.Queue
queue_of s = model s.words s.store

-- Its words and its store are those of a queue.
abbrev pub GoodState : State → Type 0
GoodState s = state.Good s.words s.store

-- ------------------------------------------------------------------ one call

-- The number, or the truth, in an answer that is one.
abbrev pub count_of : plain.Answer → ℕ
count_of (plain.refused n) = 0
count_of plain.done = 0
count_of (plain.number m) = m
count_of (plain.flag b) = 0
count_of (plain.ids l) = 0
count_of (plain.fragment f) = 0
count_of plain.nothing_waits = 0
count_of (plain.filled bs n) = 0

abbrev pub truth_of : plain.Answer → Bool
truth_of (plain.refused n) = false
truth_of plain.done = false
truth_of (plain.number m) = false
truth_of (plain.flag b) = b
truth_of (plain.ids l) = false
truth_of (plain.fragment f) = false
truth_of plain.nothing_waits = false
truth_of (plain.filled bs n) = false

-- Calls without lent lists, with a lent list of events, the next fragment, and filling a packet.
abbrev pub quiet_of : Outcome → Shown
quiet_of o = shown (called (promise.call_of o.answer (length o.events))) [] []

abbrev pub loud_of : List ℕ → Outcome → Shown
loud_of es o = shown (called (promise.call_of o.answer (length o.events))) (written es 0 o.events) []

abbrev pub sent_of : List ℕ → List ℕ → Outcome → Shown
sent_of es bs o = shown (sent (produced_of o.answer (length o.events))) (written es 0 o.events) (buffer_of o.answer bs)

abbrev pub packed_of : List ℕ → List ℕ → Outcome → Shown
packed_of es bs o = shown (filled (filled_of o.answer (length o.events))) (written es 0 o.events) (buffer_of o.answer bs)

-- What a call shows where the model's shows o: the model's answer, its events in order and its fragment's bytes, written to the lists as lent.
abbrev pub shown_of : Call → Outcome → Shown
shown_of (add time m payload) o = quiet_of o
shown_of (produce es bs time size) o = sent_of es bs o
shown_of (fill es bs time p) o = packed_of es bs o
shown_of (discard es id k) o = loud_of es o
shown_of (close es id) o = loud_of es o
shown_of ready_ids o = shown (readied (ready_of o.answer)) [] []
shown_of commit o = quiet_of o
shown_of rollback o = quiet_of o
shown_of reset o = quiet_of o
shown_of (set_threshold es id t) o = loud_of es o
shown_of (set_priority id p) o = quiet_of o
shown_of (set_interleaving b) o = quiet_of o
shown_of (restore time image) o = quiet_of o
shown_of (ask_priority id) o = shown (number (promise.number_of o.answer)) [] []
shown_of (ask_amount id) o = shown (number (promise.number_of o.answer)) [] []
shown_of (ask_threshold id) o = shown (number (promise.number_of o.answer)) [] []
shown_of ask_total o = shown (count (count_of o.answer)) [] []
shown_of ask_empty o = shown (truth (truth_of o.answer)) [] []
shown_of ask_has_data o = shown (flag (flag_of o.answer)) [] []
shown_of ask_streams_ready o = shown (flag (flag_of o.answer)) [] []
shown_of ask_ready_count o = shown (number (promise.number_of o.answer)) [] []
shown_of ask_readiness o = shown (count (count_of o.answer)) [] []
shown_of (ask_room r) o = shown (count (count_of o.answer)) [] []

-- ------------------------------------------------------------------ lists of calls

abbrev pub AllTyped : List Call → Type 0
AllTyped [] = Unit {0}
AllTyped (c ∷ cs) = Typed c × AllTyped cs

-- The two "cannot be told apart": every list of calls shows the same on both.
abbrev pub SameShown : State → State → Type 0
SameShown s₁ s₂ = (cs : List Call) → AllTyped cs → runs.run cs s₁ ≡ runs.run cs s₂

-- The model's calls, on a queue whose store has this length.
abbrev pub calls_of : ℕ → List Call → List run.Call
calls_of len [] = []
calls_of len (c ∷ cs) = call_of len c ∷ calls_of len cs

-- What a list of calls shows where the model's shows this.
abbrev pub all_shown_of : List Call → List Outcome → List Shown
all_shown_of [] os = []
all_shown_of (c ∷ cs) [] = []
all_shown_of (c ∷ cs) (o ∷ os) = shown_of c o ∷ all_shown_of cs os
