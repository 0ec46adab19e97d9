-- The calls on a queue other than saving, with their arguments, and what they show. Assumes nothing.
use Rattle.std.specs.Prelude.{ℕ, ◌<◌, ◌^◌, ◌≡◌, Bool, true, ◌&&◌, List, [], ◌∷◌, T, ltb, length}
use Rattle.std.proofs.Math.Pow.{are_bytes}
use Rattle.queue_model.specs.Questions.{Room}
use Rattle.queue_model.specs.Run as run
use Rattle.queue_model.specs.Demands.{MessageTyped, PacketTyped}
use Rattle.queue_streams.specs.Events.{places_in}
use Rattle.queue_streams.specs.Call as answer
use Rattle.queue_streams.specs.Flag.{Flag}
use Rattle.queue_streams.specs.Number.{Number}
use Rattle.queue_messages.specs.declared.message.Message.{Message}
use Rattle.queue_restarts.specs.ReadyStreams.{ReadyStreams}
use Rattle.queue_sending.specs.Produced.{Produced}
use Rattle.packets.specs.declared.packet.Packet.{Packet}
use Rattle.packets.specs.PacketFilled.{PacketFilled}
use Rattle.packets.specs.Filling.{packet_of}
use Rattle.linked_adding.specs.Message.{message_of_words}

-- "Payloads and images in a list are given with it. A listed call's arguments include the event list and the fragment buffer as lent".
pub data Call : Type 0 where
  add : (time : ℕ) (m : Message) (payload : List ℕ) → Call
  produce : (events buffer : List ℕ) (time size : ℕ) → Call
  fill : (events packet : List ℕ) (time : ℕ) → Packet → Call
  discard : (events : List ℕ) (id message_id : ℕ) → Call
  close : (events : List ℕ) (id : ℕ) → Call
  ready_ids commit rollback reset : Call
  set_threshold : (events : List ℕ) (id threshold : ℕ) → Call
  set_priority : (id priority : ℕ) → Call
  set_interleaving : Bool → Call
  restore : (time : ℕ) (image : List ℕ) → Call
  ask_priority ask_amount ask_threshold : (id : ℕ) → Call
  ask_total ask_empty ask_has_data ask_streams_ready ask_ready_count ask_readiness : Call
  ask_room : Room → Call

-- The model's call, on a queue whose store has this length.
abbrev pub call_of : ℕ → Call → run.Call
call_of len (add time m payload) = run.add len time (message_of_words m payload)
call_of len (produce es bs time size) = run.produce len (places_in es) (length bs) time size
call_of len (fill es bs time p) = run.fill len (places_in es) (length bs) time (packet_of p)
call_of len (discard es id k) = run.discard (places_in es) id k
call_of len (close es id) = run.close (places_in es) id
call_of len ready_ids = run.ready_ids
call_of len commit = run.commit
call_of len rollback = run.rollback
call_of len reset = run.reset
call_of len (set_threshold es id t) = run.set_threshold (places_in es) id t
call_of len (set_priority id p) = run.set_priority id p
call_of len (set_interleaving b) = run.set_interleaving b
call_of len (restore time image) = run.restore len time image
call_of len (ask_priority id) = run.ask_priority id
call_of len (ask_amount id) = run.ask_amount id
call_of len (ask_threshold id) = run.ask_threshold id
call_of len ask_total = run.ask_total
call_of len ask_empty = run.ask_empty
call_of len ask_has_data = run.ask_has_data
call_of len ask_streams_ready = run.ask_streams_ready
call_of len ask_ready_count = run.ask_ready_count
call_of len ask_readiness = run.ask_readiness
call_of len (ask_room r) = run.ask_room r

-- A lent list of words or of bytes: shorter than 2^64, each of its width.
abbrev pub are_words : List ℕ → Bool
are_words [] = true
are_words (w ∷ ws) = ltb w (2 ^ 64) && are_words ws

abbrev pub Words : List ℕ → Type 0
Words ws = (length ws < 2 ^ 64) × T (are_words ws)

abbrev pub Bytes : List ℕ → Type 0
Bytes bs = (length bs < 2 ^ 64) × T (are_bytes bs)

-- Every number has the width of its parameter, every list is shorter than 2^64: all that can be called, and nothing else.
abbrev pub Typed : Call → Type 0
Typed (add time m payload) = (time < 2 ^ 64) × (MessageTyped (message_of_words m payload) × (length payload < 2 ^ 64))
Typed (produce es bs time size) = Words es × (Bytes bs × ((time < 2 ^ 64) × (size < 2 ^ 64)))
Typed (fill es bs time p) = Words es × (Bytes bs × ((time < 2 ^ 64) × PacketTyped (packet_of p)))
Typed (discard es id k) = Words es × ((id < 2 ^ 16) × (k < 2 ^ 32))
Typed (close es id) = Words es × (id < 2 ^ 16)
Typed ready_ids = Unit {0}
Typed commit = Unit {0}
Typed rollback = Unit {0}
Typed reset = Unit {0}
Typed (set_threshold es id t) = Words es × ((id < 2 ^ 16) × (t < 2 ^ 64))
Typed (set_priority id p) = (id < 2 ^ 16) × (p < 2 ^ 16)
Typed (set_interleaving b) = Unit {0}
Typed (restore time image) = (time < 2 ^ 64) × Bytes image
Typed (ask_priority id) = id < 2 ^ 16
Typed (ask_amount id) = id < 2 ^ 16
Typed (ask_threshold id) = id < 2 ^ 16
Typed ask_total = Unit {0}
Typed ask_empty = Unit {0}
Typed ask_has_data = Unit {0}
Typed ask_streams_ready = Unit {0}
Typed ask_ready_count = Unit {0}
Typed ask_readiness = Unit {0}
Typed (ask_room r) = Unit {0}

-- What a call answers.
pub data Answer : Type 0 where
  called : answer.Call → Answer
  sent : Produced → Answer
  filled : PacketFilled → Answer
  readied : ReadyStreams → Answer
  number : Number → Answer
  flag : Flag → Answer
  count : ℕ → Answer
  truth : Bool → Answer

-- A call that shows its fragment by itself: a filling shows a packet.
abbrev pub NotFilling : Call → Type 0
NotFilling c = (es bs : List ℕ) (time : ℕ) (p : Packet) → c ≡ fill es bs time p → ⊥

-- What a call shows: its answer, "the same event list and fragment buffer whole"; [] where none is lent. "Demand 3 then covers this call and its packet buffer" (document 02, 5/13).
pub record Shown : Type 0 where
  pub answer : Answer
  pub events : List ℕ
  pub buffer : List ℕ

abbrev pub shown : Answer → List ℕ → List ℕ → Shown
shown a es bs = record { answer = a; events = es; buffer = bs }
