-- The calls of a job: the priorities are set on a new interleaving queue, then the messages are added, then fragments are asked for. Assumes nothing.
use Rattle.std.specs.Prelude.{ℕ, ◌≡◌, true, List, [], ◌∷◌, map, length}
use Rattle.std.proofs.Math.Option.{some}
use Rattle.queue_streams.specs.Call as call
use Rattle.queue_messages.specs.declared.message.Message.{Message}
use Rattle.linked_adding.specs.Message.{message_of_words}
use Rattle.queue_runs.specs.Calls.{Call, add, produce, set_priority, set_interleaving, called, Shown}
use Rattle.queue_runs.specs.Run.{State, run, after}
use Rattle.queue_runs.specs.Meaning.{AllTyped}
use Rattle.queue_runs.specs.Creation.{Arguments, new_state}
use Rattle.priority_plan.specs.Works.{All, PlannedStream, planned_streams}
use Rattle.priority_plan.specs.Jobs as model
use Rattle.priority_plan.specs.Turns as turns

-- ------------------------------------------------------------------ the calls

-- "set on a new interleaving queue before the messages are added": interleaving on, then each stream's priority, in the list's order.
unfoldable pub priority_calls : List ℕ → List ℕ → List Call
priority_calls [] ps = []
priority_calls (i ∷ is) [] = []
priority_calls (i ∷ is) (p ∷ ps) = set_priority i p ∷ priority_calls is ps

abbrev pub settings : List ℕ → List ℕ → List Call
settings ids ps = set_interleaving true ∷ priority_calls ids ps

-- A message to add, at a time.
pub record Adding : Type 0 where
  pub time : ℕ
  pub message : Message
  pub payload : List ℕ

abbrev pub adding_call : Adding → Call
adding_call a = add a.time a.message a.payload

-- A next fragment to ask for, with the event list and the fragment buffer as lent.
pub record Asking : Type 0 where
  pub events : List ℕ
  pub buffer : List ℕ
  pub time : ℕ
  pub size : ℕ

abbrev pub asking_call : Asking → Call
asking_call x = produce x.events x.buffer x.time x.size

-- What comes after the first messages: a next fragment is asked for, or one more message is added.
pub data Later : Type 0 where
  ask : Asking → Later
  more : Adding → Later

abbrev pub later_call : Later → Call
later_call (ask x) = asking_call x
later_call (more a) = adding_call a

-- The times at which fragments are asked for, and the messages that are added among them.
abbrev pub times : List Later → List ℕ
times [] = []
times (ask x ∷ xs) = x.time ∷ times xs
times (more a ∷ xs) = times xs

abbrev pub added_later : List Later → List Adding
added_later [] = []
added_later (ask x ∷ xs) = added_later xs
added_later (more a ∷ xs) = a ∷ added_later xs

-- ------------------------------------------------------------------ the queues

-- A new queue with the priorities set, and with the messages added too.
abbrev pub prepared : Arguments → State → List ℕ → List ℕ → State
prepared a s ids ps = after (settings ids ps) (new_state a s)

abbrev pub loaded : Arguments → State → List ℕ → List ℕ → List Adding → State
loaded a s ids ps ms = after (map adding_call ms) (prepared a s ids ps)

-- ------------------------------------------------------------------ the premises

-- Every call of a list is accepted, and writes no event.
abbrev pub Accepted : List Shown → Type 0
Accepted os = All (λ (o : Shown). o.answer ≡ called (call.Accepted 0)) os

-- The model's messages, on a queue whose store has this length.
abbrev pub adding_of : ℕ → Adding → model.Adding
adding_of len a = record { store = len; now = a.time; message = message_of_words a.message a.payload }

abbrev pub addings_of : ℕ → List Adding → List model.Adding
addings_of len ms = map (adding_of len) ms

-- "if all those messages are accepted": in any order and among others, the first one on each stream of the list having "each first message's size".
pub record Load (a : Arguments) (s : State) (ids sizes ps : List ℕ) (ms : List Adding) : Type 0 where
  pub typed : AllTyped (map adding_call ms)
  pub accepted : Accepted (run (map adding_call ms) (prepared a s ids ps))
  pub sizes_are : All (λ (h : PlannedStream). model.first_size h.stream_id (addings_of (length s.store) ms) ≡ some h.size) (planned_streams ids sizes)

-- The later calls are any that can be made, but that no message has expired when a fragment is asked for.
pub record Timely (len : ℕ) (ms : List Adding) (xs : List Later) : Type 0 where
  pub typed : AllTyped (map later_call xs)
  pub lasting : All (λ (t : ℕ). turns.Lasting t (addings_of len ms) × turns.Lasting t (addings_of len (added_later xs))) (times xs)
