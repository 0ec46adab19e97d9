-- Lists of calls on a queue and on its stream reset handler, and what holds of them. Document 02, 9/13. Assumes nothing.
use Rattle.std.specs.Prelude.{ℕ, ◌<◌, ◌^◌, ◌≡◌, Bool, true, false, List, [], ◌∷◌}
use Rattle.std.proofs.Math.Option.{Option, none, some}
use Rattle.queue_model.specs.Types.{Options, Queue}
use Rattle.queue_model.specs.Streams.{new_queue}
use Rattle.queue_model.specs.Ascending.{Ascending}
use Rattle.queue_model.specs.Run as run
use Rattle.queue_model.specs.Demands.{Typed, Created, Reachable, Restores}
use Rattle.reset_model.specs.Wire.{request_bytes}
use Rattle.reset_model.specs.Handler.{Request, Handler, Answer, refused, none_ready, written, ignored, committed, rolled_back, still_waiting, was_reset, Effect, start, make_request, handle_response, whole_reset, resetting_ids, streams_underway}

-- A call of the handler, or another call on its queue.
pub data Use : Type 0 where
  request : (room response_number last_tsn : ℕ) → Use
  response : (bytes : List ℕ) → Use
  reset : Use
  other : run.Call → Use

-- "with ready ids, commit, rollback and that reset called only by it".
abbrev pub only_by_it : run.Call → Bool
only_by_it (run.add store now m) = false
only_by_it (run.produce store places buffer now size) = false
only_by_it (run.fill store places buffer now p) = false
only_by_it (run.discard places s k) = false
only_by_it (run.close places s) = false
only_by_it run.ready_ids = true
only_by_it run.commit = true
only_by_it run.rollback = true
only_by_it run.reset = true
only_by_it (run.set_threshold places s t) = false
only_by_it (run.set_priority s p) = false
only_by_it (run.set_interleaving b) = false
only_by_it (run.restore store now image) = false
only_by_it (run.ask_priority s) = false
only_by_it (run.ask_amount s) = false
only_by_it (run.ask_threshold s) = false
only_by_it run.ask_total = false
only_by_it run.ask_empty = false
only_by_it run.ask_has_data = false
only_by_it run.ask_streams_ready = false
only_by_it run.ask_ready_count = false
only_by_it run.ask_readiness = false
only_by_it (run.ask_room r) = false

abbrev pub Allowed : Use → Type 0
Allowed (request room response_number last_tsn) = Unit {0}
Allowed (response bytes) = Unit {0}
Allowed reset = Unit {0}
Allowed (other c) = Typed c × (only_by_it c ≡ false)

abbrev pub AllAllowed : List Use → Type 0
AllAllowed [] = Unit {0}
AllAllowed (u ∷ us) = Allowed u × AllAllowed us

-- A queue with its handler.
pub record Pair : Type 0 where
  pub handler : Handler
  pub queue : Queue

abbrev pub pair : Handler → Queue → Pair
pair h q = record { handler = h; queue = q }

abbrev pub pair_of : Effect → Pair
pair_of e = pair e.handler e.next

unfoldable pub used : Use → Pair → Pair
unfolding make_request handle_response whole_reset run.step
used (request room response_number last_tsn) p = pair_of (make_request room response_number last_tsn p.handler p.queue)
used (response bytes) p = pair_of (handle_response bytes p.handler p.queue)
used reset p = pair_of (whole_reset p.handler p.queue)
used (other c) p = pair p.handler (run.step c p.queue).next

unfoldable pub after : List Use → Pair → Pair
unfolding used
after [] p = p
after (u ∷ us) p = after us (used u p)

-- "From its start on a new or restored queue".
pub data Starts (o : Options) : Queue → Type 0 where
  new : Created o → Starts o (new_queue o)
  restored_from : {q₀ q : Queue} {now : ℕ} {image : List ℕ} → Reachable o q₀ → now < 2 ^ 64 → Restores now image q₀ q → Starts o q

-- "exactly the streams of the request underway are resetting, none without one".
unfoldable pub Exact : Pair → Type 0
unfolding resetting_ids
Exact p = resetting_ids p.queue.streams ≡ streams_underway p.handler.underway

-- The last message written: that of a request, if it wrote one.
abbrev pub last_written : Answer → Option (List ℕ) → Option (List ℕ)
last_written (refused n) l = l
last_written none_ready l = l
last_written (written bytes) l = some bytes
last_written ignored l = l
last_written committed l = l
last_written rolled_back l = l
last_written still_waiting l = l
last_written was_reset l = l

unfoldable pub message_after : Use → Pair → Option (List ℕ) → Option (List ℕ)
unfolding make_request
message_after (request room response_number last_tsn) p l = last_written (make_request room response_number last_tsn p.handler p.queue).answer l
message_after (response bytes) p l = l
message_after reset p l = l
message_after (other c) p l = l

unfoldable pub last_message : List Use → Pair → Option (List ℕ) → Option (List ℕ)
unfolding used message_after
last_message [] p l = l
last_message (u ∷ us) p l = last_message us (used u p) (message_after u p l)

-- The last message is the request of this number and names exactly these ids, in ascending order.
pub record Message (number : ℕ) (ids : List ℕ) (last : Option (List ℕ)) : Type 0 where
  pub response_number : ℕ
  pub last_tsn : ℕ
  pub bytes_are : last ≡ some (request_bytes number response_number last_tsn ids)
  pub ascending : Ascending ids

-- The streams that are resetting: none without a request underway, else those that its message names.
abbrev pub Named : Option Request → List ℕ → Option (List ℕ) → Type 0
Named none ids last = ids ≡ []
Named (some u) ids last = Message u.number ids last

-- Request 9/13, its theorem: "From its start on a new or restored queue, with ready ids, commit, rollback and that reset called only by it, exactly the
-- streams of the request underway are resetting, none without one."
unfoldable pub Request9 : Type 0
unfolding after Exact
Request9 = (o : Options) (q : Queue) (n : ℕ) (us : List Use) → Starts o q → AllAllowed us → Exact (after us (pair (start n) q))

-- And "the ready stream ids" of the request's message, the last one written, are these streams, in ascending order.
unfoldable pub NamedIn : Pair → Option (List ℕ) → Type 0
unfolding resetting_ids
NamedIn p last = Named p.handler.underway (resetting_ids p.queue.streams) last

unfoldable pub Request9Message : Type 0
unfolding after last_message NamedIn
Request9Message = (o : Options) (q : Queue) (n : ℕ) (us : List Use) → Starts o q → AllAllowed us → NamedIn (after us (pair (start n) q)) (last_message us (pair (start n) q) none)
