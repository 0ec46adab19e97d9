-- A job: priorities that are set on a new interleaving queue before its messages are added, and what comes after. Assumes nothing.
use Rattle.std.specs.Prelude.{◌≡◌, Bool, true, false, List, [], ◌∷◌, map, ℕ, eqb, length}
use Rattle.std.proofs.Math.Option.{Option, none, some}
use Rattle.std.specs.Prelude.{if◌then◌else◌}
use Rattle.queue_model.specs.Types.{Options, Queue, Message, done, Outcome}
use Rattle.queue_model.specs.Streams.{new_queue}
use Rattle.queue_model.specs.Run.{Call, add, produce, set_priority, set_interleaving, run, after}
use Rattle.queue_model.specs.Demands.{AllTyped, Created}
use Rattle.priority_plan.specs.Works.{PlannedStream, All}

-- ------------------------------------------------------------------ the job's calls

-- A setting before the messages are added.
pub data Setting : Type 0 where
  priority : (stream value : ℕ) → Setting
  interleaving : Bool → Setting

abbrev pub setting_call : Setting → Call
setting_call (priority k p) = set_priority k p
setting_call (interleaving b) = set_interleaving b

-- A message to add, at a time, with the store lent.
pub record Adding : Type 0 where
  pub store : ℕ
  pub now : ℕ
  pub message : Message

abbrev pub adding_call : Adding → Call
adding_call a = add a.store a.now a.message

-- A next fragment that is asked for.
pub record Asking : Type 0 where
  pub store : ℕ
  pub places : ℕ
  pub buffer : ℕ
  pub now : ℕ
  pub size : ℕ

abbrev pub asking_call : Asking → Call
asking_call x = produce x.store x.places x.buffer x.now x.size

-- What comes after the first messages: a next fragment is asked for, or one more message is added.
pub data Later : Type 0 where
  ask : Asking → Later
  more : Adding → Later

abbrev pub later_call : Later → Call
later_call (ask x) = asking_call x
later_call (more a) = adding_call a

-- The times at which fragments are asked for, and the messages that are added among them.
abbrev pub times : List Later → List ℕ
times [] = []
times (ask x ∷ xs) = x.now ∷ times xs
times (more a ∷ xs) = times xs

abbrev pub added_later : List Later → List Adding
added_later [] = []
added_later (ask x ∷ xs) = added_later xs
added_later (more a ∷ xs) = a ∷ added_later xs

-- The priority last set on a stream, after what was set before; the interleaving choice last set; and the size of the first message added on a stream.
unfoldable pub last_priority : ℕ → Option ℕ → List Setting → Option ℕ
last_priority k old [] = old
last_priority k old (priority j p ∷ ss) = last_priority k (if eqb j k then some p else old) ss
last_priority k old (interleaving b ∷ ss) = last_priority k old ss

unfoldable pub last_interleaving : Bool → List Setting → Bool
last_interleaving old [] = old
last_interleaving old (priority j p ∷ ss) = last_interleaving old ss
last_interleaving old (interleaving b ∷ ss) = last_interleaving b ss

unfoldable pub first_size : ℕ → List Adding → Option ℕ
first_size k [] = none
first_size k (a ∷ as') = if eqb a.message.stream_id k then some (length a.message.payload) else first_size k as'

-- "if all those messages are accepted".
abbrev pub Accepted : List Outcome → Type 0
Accepted os = All (λ (o : Outcome). o.answer ≡ done) os

-- A stream's priority is set, and its first message has its size.
pub record Prepared (ss : List Setting) (as' : List Adding) (h : PlannedStream) (p : ℕ) : Type 0 where
  pub priority_set : last_priority h.stream_id none ss ≡ some p
  pub message_first : first_size h.stream_id as' ≡ some h.size

-- A property of each stream with its priority.
abbrev pub AllPairs : (PlannedStream → ℕ → Type 0) → List PlannedStream → List ℕ → Type 0
AllPairs P [] [] = Unit {0}
AllPairs P [] (p ∷ ps) = ⊥
AllPairs P (h ∷ hs) [] = ⊥
AllPairs P (h ∷ hs) (p ∷ ps) = P h p × AllPairs P hs ps

-- The queue after the settings, and after the adding.
abbrev pub set_up : Options → List Setting → Queue
set_up o ss = after (map setting_call ss) (new_queue o)

abbrev pub loaded : Options → List Setting → List Adding → Queue
loaded o ss as' = after (map adding_call as') (set_up o ss)

-- "set on a new interleaving queue before the messages are added": settings and messages in any order among themselves, also of other streams, and also
-- more than
-- one message on a stream.
pub record Job (o : Options) (hs : List PlannedStream) (ps : List ℕ) (ss : List Setting) (as' : List Adding) : Type 0 where
  pub created : Created o
  pub settings_typed : AllTyped (map setting_call ss)
  pub messages_typed : AllTyped (map adding_call as')
  pub interleaves : last_interleaving false ss ≡ true
  pub settings_accepted : Accepted (run (map setting_call ss) (new_queue o))
  pub messages_accepted : Accepted (run (map adding_call as') (set_up o ss))
  pub prepared : AllPairs (Prepared ss as') hs ps
