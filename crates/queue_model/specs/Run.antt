-- The calls that demand 3 lists, one step of the queue, and what lists of calls show. Assumes nothing.
use Rattle.std.specs.Prelude.{ℕ, Bool, List, [], ◌∷◌}
use Rattle.queue_model.specs.Types.{Queue, Message, Packet, number, flag, Outcome, Step, reply}
use Rattle.queue_model.specs.Questions.{Room}
use Rattle.queue_model.specs.Calls
use Rattle.queue_model.specs.Restore

-- A call other than saving, with its arguments. A lent buffer stands by its length: `store`, `places` of the event list, `buffer` of the fragment or the
-- packet.
pub data Call : Type 0 where
  add : (store now : ℕ) → Message → Call
  produce : (store places buffer now size : ℕ) → Call
  fill : (store places buffer now : ℕ) → Packet → Call
  discard : (places stream message_id : ℕ) → Call
  close : (places stream : ℕ) → Call
  ready_ids commit rollback reset : Call
  set_threshold : (places stream threshold : ℕ) → Call
  set_priority : (stream priority : ℕ) → Call
  set_interleaving : Bool → Call
  restore : (store now : ℕ) (image : List ℕ) → Call
  ask_priority ask_amount ask_threshold : (stream : ℕ) → Call
  ask_total ask_empty ask_has_data ask_streams_ready ask_ready_count ask_readiness : Call
  ask_room : Room → Call

-- One call.
unfoldable pub step : Call → Queue → Step
unfolding Calls.add Calls.produce Calls.fill Calls.discard Calls.close Calls.ready_ids Calls.commit Calls.rollback Calls.reset Calls.set_threshold Calls.set_priority Calls.set_interleaving Restore.restore Calls.priority_of Calls.amount_of Calls.threshold_of Calls.is_empty Calls.has_data Calls.streams_ready Calls.ready_count Calls.readiness Calls.room_of
step (add store now m) q = Calls.add store now m q
step (produce store places buffer now size) q = Calls.produce store places buffer now size q
step (fill store places buffer now p) q = Calls.fill store places buffer now p q
step (discard places s k) q = Calls.discard places s k q
step (close places s) q = Calls.close places s q
step ready_ids q = Calls.ready_ids q
step commit q = Calls.commit q
step rollback q = Calls.rollback q
step reset q = Calls.reset q
step (set_threshold places s t) q = Calls.set_threshold places s t q
step (set_priority s p) q = Calls.set_priority s p q
step (set_interleaving b) q = Calls.set_interleaving b q
step (restore store now image) q = Restore.restore store now image q
step (ask_priority s) q = reply (number (Calls.priority_of q s)) [] q
step (ask_amount s) q = reply (number (Calls.amount_of q s)) [] q
step (ask_threshold s) q = reply (number (Calls.threshold_of q s)) [] q
step ask_total q = reply (number q.total) [] q
step ask_empty q = reply (flag (Calls.is_empty q)) [] q
step ask_has_data q = reply (flag (Calls.has_data q)) [] q
step ask_streams_ready q = reply (flag (Calls.streams_ready q)) [] q
step ask_ready_count q = reply (number (Calls.ready_count q)) [] q
step ask_readiness q = reply (number (Calls.readiness q)) [] q
step (ask_room r) q = reply (number (Calls.room_of r q)) [] q

-- What a list of calls shows, call by call.
unfoldable pub run : List Call → Queue → List Outcome
unfolding step
run [] q = []
run (c ∷ cs) q = let s = step c q in s.outcome ∷ run cs s.next

-- The queue after a list of calls.
unfoldable pub after : List Call → Queue → Queue
unfolding step
after [] q = q
after (c ∷ cs) q = after cs (step c q).next
