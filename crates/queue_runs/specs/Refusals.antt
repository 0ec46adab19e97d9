-- "nothing changes in the queue or in any lent buffer when a call is refused", on any words at all. Assumes nothing.
use Rattle.std.specs.Prelude.{ℕ, ◌≡◌, Bool, true, false, List, []}
use Rattle.queue_streams.specs.Call as call
use Rattle.queue_streams.specs.Flag.{Flag}
use Rattle.queue_streams.specs.Flag as flags
use Rattle.queue_streams.specs.Number.{Number}
use Rattle.queue_streams.specs.Number as numbers
use Rattle.queue_sending.specs.Produced.{Produced}
use Rattle.queue_sending.specs.Produced as produced
use Rattle.packets.specs.PacketFilled.{PacketFilled}
use Rattle.packets.specs.PacketFilled as packet
use Rattle.queue_runs.specs.Calls.{Call, add, produce, fill, discard, close, ready_ids, commit, rollback, reset, set_threshold, set_priority, set_interleaving, restore, ask_priority, ask_amount, ask_threshold, ask_total, ask_empty, ask_has_data, ask_streams_ready, ask_ready_count, ask_readiness, ask_room, Answer, called, sent, filled, readied, number, flag, count, truth}
use Rattle.queue_runs.specs.Run.{State, step}

-- Whether an answer is a refusal.
abbrev pub call_refused : call.Call → Bool
call_refused (call.Accepted k) = false
call_refused (call.Refused n) = true

abbrev pub sent_refused : Produced → Bool
sent_refused (produced.Nothing k) = false
sent_refused (produced.Fragment k d) = false
sent_refused (produced.Refused n) = true

abbrev pub fill_refused : PacketFilled → Bool
fill_refused (packet.Filled k bytes chunks) = false
fill_refused (packet.Refused n) = true

abbrev pub number_refused : Number → Bool
number_refused (numbers.Value n) = false
number_refused (numbers.Refused n) = true

abbrev pub flag_refused : Flag → Bool
flag_refused (flags.Value b) = false
flag_refused (flags.Refused n) = true

abbrev pub refusal : Answer → Bool
refusal (called a) = call_refused a
refusal (sent a) = sent_refused a
refusal (filled a) = fill_refused a
refusal (readied r) = call_refused r.answer
refusal (number a) = number_refused a
refusal (flag a) = flag_refused a
refusal (count n) = false
refusal (truth b) = false

-- The lists that a call is lent.
abbrev pub events_of : Call → List ℕ
events_of (add time m payload) = []
events_of (produce es bs time size) = es
events_of (fill es bs time p) = es
events_of (discard es id k) = es
events_of (close es id) = es
events_of ready_ids = []
events_of commit = []
events_of rollback = []
events_of reset = []
events_of (set_threshold es id t) = es
events_of (set_priority id p) = []
events_of (set_interleaving b) = []
events_of (restore time image) = []
events_of (ask_priority id) = []
events_of (ask_amount id) = []
events_of (ask_threshold id) = []
events_of ask_total = []
events_of ask_empty = []
events_of ask_has_data = []
events_of ask_streams_ready = []
events_of ask_ready_count = []
events_of ask_readiness = []
events_of (ask_room r) = []

abbrev pub buffer_of : Call → List ℕ
buffer_of (add time m payload) = []
buffer_of (produce es bs time size) = bs
buffer_of (fill es bs time p) = bs
buffer_of (discard es id k) = []
buffer_of (close es id) = []
buffer_of ready_ids = []
buffer_of commit = []
buffer_of rollback = []
buffer_of reset = []
buffer_of (set_threshold es id t) = []
buffer_of (set_priority id p) = []
buffer_of (set_interleaving b) = []
buffer_of (restore time image) = []
buffer_of (ask_priority id) = []
buffer_of (ask_amount id) = []
buffer_of (ask_threshold id) = []
buffer_of ask_total = []
buffer_of ask_empty = []
buffer_of ask_has_data = []
buffer_of ask_streams_ready = []
buffer_of ask_ready_count = []
buffer_of ask_readiness = []
buffer_of (ask_room r) = []

-- A refused call leaves the queue, the event list and the fragment or packet buffer as they were.
pub record Unchanged (c : Call) (s : State) : Type 0 where
  pub queue : (step c s).next ≡ s
  pub events : (step c s).shows.events ≡ events_of c
  pub buffer : (step c s).shows.buffer ≡ buffer_of c

abbrev pub RefusedUnchanged : Type 0
RefusedUnchanged = (c : Call) (s : State) → refusal (step c s).shows.answer ≡ true → Unchanged c s
