-- The demands on images, as types over the model: demand 3 whole, and demand 2's sentence on saved images. Assumes nothing.
use Rattle.std.specs.Prelude.{◌≡◌, ◌↔◌, Bool, true, false, not, ◌&&◌, List, [], ◌∷◌, ℕ, ◌≤◌, ◌<◌, ◌^◌, T, eqb}
use Rattle.std.proofs.Math.Option.{none, get_or}
use Rattle.std.proofs.Math.Pow.{are_bytes}
use Rattle.std.specs.Prelude.{if◌then◌else◌}
use Rattle.queue_model.specs.Types.{Stream, Options, Queue, Message, Packet, done, reply}
use Rattle.queue_model.specs.Streams.{has_items, new_queue}
use Rattle.queue_model.specs.Refusals.{max_time, create_refusal}
use Rattle.queue_model.specs.Image.{write_image}
use Rattle.queue_model.specs.RustHandover.{HandoverState, handover_state, restore_from_state, begun_stream, restore_remembering}
use Rattle.queue_model.specs.Run.{Call, add, produce, fill, discard, close, ready_ids, commit, rollback, reset, set_threshold, set_priority, set_interleaving, restore, ask_priority, ask_amount, ask_threshold, ask_total, ask_empty, ask_has_data, ask_streams_ready, ask_ready_count, ask_readiness, ask_room, step, run}
use Rattle.queue_model.specs.Restore

-- ------------------------------------------------------------------ calls whose numbers have their widths

pub record MessageTyped (m : Message) : Type 0 where
  pub stream_id : m.stream_id < 2 ^ 16
  pub ppid : m.ppid < 2 ^ 32
  pub max_retransmissions : get_or m.max_retransmissions 0 < 2 ^ 16
  pub lifetime : get_or m.lifetime 0 < 2 ^ 64
  pub lifecycle_id : m.lifecycle_id < 2 ^ 64
  pub payload : T (are_bytes m.payload)

pub record PacketTyped (p : Packet) : Type 0 where
  pub limit : p.limit < 2 ^ 64
  pub source_port : p.source_port < 2 ^ 16
  pub destination_port : p.destination_port < 2 ^ 16
  pub verification_tag : p.verification_tag < 2 ^ 32
  pub tsn : p.tsn < 2 ^ 32

-- Stream ids and priorities have 16 bits, message ids 32, all others 64.
abbrev pub Typed : Call → Type 0
Typed (add store now m) = (store < 2 ^ 64) × ((now < 2 ^ 64) × MessageTyped m)
Typed (produce store places buffer now size) = (store < 2 ^ 64) × ((places < 2 ^ 64) × ((buffer < 2 ^ 64) × ((now < 2 ^ 64) × (size < 2 ^ 64))))
Typed (fill store places buffer now p) = (store < 2 ^ 64) × ((places < 2 ^ 64) × ((buffer < 2 ^ 64) × ((now < 2 ^ 64) × PacketTyped p)))
Typed (discard places s k) = (places < 2 ^ 64) × ((s < 2 ^ 16) × (k < 2 ^ 32))
Typed (close places s) = (places < 2 ^ 64) × (s < 2 ^ 16)
Typed ready_ids = Unit {0}
Typed commit = Unit {0}
Typed rollback = Unit {0}
Typed reset = Unit {0}
Typed (set_threshold places s t) = (places < 2 ^ 64) × ((s < 2 ^ 16) × (t < 2 ^ 64))
Typed (set_priority s p) = (s < 2 ^ 16) × (p < 2 ^ 16)
Typed (set_interleaving b) = Unit {0}
Typed (restore store now image) = (store < 2 ^ 64) × ((now < 2 ^ 64) × T (are_bytes image))
Typed (ask_priority s) = s < 2 ^ 16
Typed (ask_amount s) = s < 2 ^ 16
Typed (ask_threshold s) = s < 2 ^ 16
Typed ask_total = Unit {0}
Typed ask_empty = Unit {0}
Typed ask_has_data = Unit {0}
Typed ask_streams_ready = Unit {0}
Typed ask_ready_count = Unit {0}
Typed ask_readiness = Unit {0}
Typed (ask_room r) = Unit {0}

abbrev pub AllTyped : List Call → Type 0
AllTyped [] = Unit {0}
AllTyped (c ∷ cs) = Typed c × AllTyped cs

-- ------------------------------------------------------------------ queues

-- Creation arguments that have their widths and are not refused (so `create o` is `new (new_queue o)`).
pub record Created (o : Options) : Type 0 where
  pub accepted : create_refusal o ≡ none
  pub default_priority : o.default_priority < 2 ^ 16
  pub default_threshold : o.default_threshold < 2 ^ 64
  pub total_threshold : o.total_threshold < 2 ^ 64

-- A queue that creation and calls lead to. (Saving changes nothing, so it needs no step here.)
pub data Reachable (o : Options) : Queue → Type 0 where
  created : Created o → Reachable o (new_queue o)
  called : {q : Queue} → Reachable o q → (c : Call) → Typed c → Reachable o (step c q).next

-- A new queue with an interleaving choice.
unfoldable pub fresh : Options → Bool → Queue
unfolding new_queue step
fresh o b = (step (set_interleaving b) (new_queue o)).next

-- ------------------------------------------------------------------ demand 3

-- "cannot be told apart: for every list of calls on a queue other than saving ..., refused ones included, each call gives on both queues the same answer
-- or refusal, the
-- same fragment and the same events in order". (The lent buffers are the same for both, so what they hold afterwards is a function of what is compared here.)
abbrev pub Indistinguishable : Queue → Queue → Type 0
Indistinguishable q₁ q₂ = (cs : List Call) → AllTyped cs → run cs q₁ ≡ run cs q₂

-- "An image is accepted when restoring it is not refused": on the queue q, which leads to r.
pub record Restores (now : ℕ) (image : List ℕ) (q r : Queue) : Type 0 where
  pub bytes : T (are_bytes image)
  pub accepted : Restore.restore q.options.store_length now image q ≡ reply done [] r

-- "Two accepted images are equal byte for byte exactly when the queues restored from them cannot be told apart". "Premises: both queues are created
-- alike, have the same
-- interleaving choice, and are restored at the same time, 1 or later".
unfoldable pub Demand3 : Type 0
Demand3 =
    (o : Options) (q₁ q₂ r₁ r₂ : Queue) (now : ℕ) (i₁ i₂ : List ℕ)
    → Reachable o q₁ → Reachable o q₂ → q₁.interleaving ≡ q₂.interleaving → 1 ≤ now
    → Restores now i₁ q₁ r₁ → Restores now i₂ q₂ r₂
    → (i₁ ≡ i₂) ↔ Indistinguishable r₁ r₂

-- ------------------------------------------------------------------ demand 2 on images

-- "a stream with zero counters and the trailer's default priority has none, and without messages it is not known after restoring". Said again here,
-- without the image's
-- `plain`: what demand 2 compares with shall rest on no definition of the image.
unfoldable pub nothing_to_restore : ℕ → Stream → Bool
unfolding has_items
nothing_to_restore d s = (eqb s.counters.next_ssn 0 && eqb s.counters.next_unordered_mid 0 && eqb s.counters.next_ordered_mid 0 && eqb s.priority d) && not (has_items s)

unfoldable pub without_plain : ℕ → List Stream → List Stream
unfolding nothing_to_restore
without_plain d [] = []
without_plain d (s ∷ ss) = let rest = without_plain d ss in if nothing_to_restore d s then rest else s ∷ rest

unfoldable pub forget_plain : Queue → Queue
unfolding without_plain
forget_plain q = record { options = q.options; interleaving = q.interleaving; total = q.total; next_message_id = q.next_message_id; streams = without_plain q.options.default_priority q.streams; scheduler = q.scheduler }

-- "Every saved image is accepted at any allowed time by a new queue created alike, and restores what the Rust restores from its own record"
-- (specs/RustHandover), as document 02's 10/13
-- amends it, but for the streams that have nothing to restore: whenever it was saved, and whatever the new queue's interleaving choice.
unfoldable pub Demand2Images : Type 0
Demand2Images =
    (o : Options) (q : Queue) (saved now : ℕ) (b : Bool)
    → Reachable o q → now ≤ max_time
    → Restore.restore o.store_length now (write_image saved q) (fresh o b) ≡ reply done [] (forget_plain (restore_remembering now (handover_state saved q) (fresh o b)))

-- 10/13: "The Rust is matched on images without a half-sent message and on those restored with interleaving."
abbrev pub Matched : Bool → HandoverState → Type 0
Matched true h = Unit {0}
Matched false h = begun_stream h.queued_messages ≡ none

unfoldable pub Demand2Rust : Type 0
Demand2Rust =
    (o : Options) (q : Queue) (saved now : ℕ) (b : Bool)
    → Reachable o q → now ≤ max_time → Matched b (handover_state saved q)
    → Restore.restore o.store_length now (write_image saved q) (fresh o b) ≡ reply done [] (forget_plain (restore_from_state now (handover_state saved q) (fresh o b)))
