-- The fragments of a message stand together in what queues without interleaving show, changeovers included (document 02, 10/13: "RFC 9260 gives the
-- fragments of a DATA message consecutive
-- TSNs"), on the words and stores that the calls leave. Assumes nothing.
use Rattle.std.specs.Prelude.{ℕ, ◌≤◌, ◌≡◌, Bool, false, List, [], ◌∷◌, ◌++◌, length, take}
use Rattle.std.proofs.Math.Option.{none}
use Rattle.types.specs.Wrap.{wrap_suc}
use Rattle.queue_model.specs.Unbroken.{UnbrokenBehind, Together}
use Rattle.queue_sending.specs.declared.data.DataToSend.{DataToSend}
use Rattle.packets.specs.declared.packet.Packet.{Packet}
use Rattle.queue_runs.specs.Calls.{Call, fill, restore, Typed, Shown}
use Rattle.queue_runs.specs.Fragments.{data_in}
use Rattle.queue_runs.specs.Run.{State, step, run}
use Rattle.queue_runs.specs.Creation.{Arguments, new_state, Creates}
use Rattle.queue_runs.specs.MidMessage.{Uninterleaved}
use Rattle.queue_fillings.specs.Expanded.{instead}
use Rattle.queue_images.specs.Demand2.{Saves, fresh_state}

-- ------------------------------------------------------------------ lists of fragments

-- e goes on with d's message, as in the model (queue_model: specs/Unbroken): the key has the stream and whether the message is unordered.
pub record Continues (d e : DataToSend) : Type 0 where
  pub same_message : e.message_id.0 ≡ d.message_id.0
  pub same_stream : e.«data».stream_key ≡ d.«data».stream_key
  pub same_mid : e.«data».mid.0 ≡ d.«data».mid.0
  pub same_ssn : e.«data».ssn.0 ≡ d.«data».ssn.0
  pub next_fsn : e.«data».fsn.0 ≡ wrap_suc 32 d.«data».fsn.0
  pub not_end : d.«data».is_end ≡ false

abbrev pub starts : DataToSend → Bool
starts d = d.«data».is_beginning

-- Every fragment that is not a first one stands directly behind one that it goes on with.
abbrev pub Unbroken : List DataToSend → Type 0
Unbroken ds = UnbrokenBehind starts Continues none ds

-- ------------------------------------------------------------------ what a queue has sent

-- The fragments that calls show, in order.
unfoldable pub all_in : List Shown → List DataToSend
all_in [] = []
all_in (o ∷ os) = data_in o.answer ++ all_in os

-- A call that neither switches interleaving on nor restores, and shows its fragment by itself.
abbrev pub Onward : Call → State → Type 0
Onward c s = Uninterleaved ⊥ (λ x. ⊥) c s

-- A new queue without interleaving, in any words and with any bytes in the store: as it is created, or with that choice made.
pub data New (a : Arguments) (len : ℕ) : State → Type 0 where
  as_created : {before : State} → Creates a before → length before.store ≡ len → New a len (new_state a before)
  as_chosen : {before : State} → Creates a before → length before.store ≡ len → New a len (fresh_state a before false)

-- The queue and all fragments sent until it. A new queue has sent none; then come those that the calls show, those of a filling being those of its
-- separate calls (document 02, 5/13); and over any number of changeovers, at any points, the list goes on: this queue
-- is saved into a lent buffer, and a new queue, created alike, restores the image at an allowed time (it is accepted: `Demand2Images`). An image of
-- unknown origin has no place here: the
-- fragments of its half-sent message are in no list.
pub data Sends (a : Arguments) (len : ℕ) : State → List DataToSend → Type 0 where
  begins : {s : State} → New a len s → Sends a len s []
  goes_on : {s : State} {ds : List DataToSend} → Sends a len s ds → (c : Call) → Typed c → Onward c s → Sends a len (step c s).next (ds ++ data_in (step c s).shows.answer)
  packs : {s : State} {ds : List DataToSend} → Sends a len s ds → (es bs : List ℕ) (time : ℕ) (p : Packet) → Typed (fill es bs time p)
      → Sends a len (step (fill es bs time p) s).next (ds ++ all_in (run (instead (fill es bs time p) s) s))
  changes_over : {s t : State} {ds : List DataToSend} → Sends a len s ds → (saved time size : ℕ) (buffer after : List ℕ)
      → Saves s saved buffer after size → New a len t → time ≤ 4611686018427387903
      → Sends a len (step (restore time (take size after)) t).next ds

-- The fragments before saving and after restoring, put together: once a message's first fragment is out, the next fragments are the rest of it. It may
-- stop short, where it expires or is
-- discarded; a head that the whole-queue reset puts back whole is sent again from its first fragment on.
unfoldable pub Request10Unbroken : Type 0
unfolding all_in
Request10Unbroken = (a : Arguments) (len : ℕ) (s : State) (ds : List DataToSend) → Sends a len s ds → Unbroken ds

-- So there is never another message between two fragments of one.
unfoldable pub Request10Together : Type 0
unfolding all_in
Request10Together = (a : Arguments) (len : ℕ) (s : State) (ds : List DataToSend) → Sends a len s ds → Together starts (λ (d : DataToSend). d.message_id.0) ds
