-- The fragments of a message stand together in what a queue without interleaving has sent, changeovers included: what the association relies on in
-- document 02's 10/13 ("RFC 9260 gives the
-- fragments of a DATA message consecutive TSNs"), as types over the model. Assumes nothing.
use Rattle.std.specs.Prelude.{◌≡◌, Bool, false, List, [], ◌∷◌, ◌++◌, ℕ, ◌≤◌, ◌<◌}
use Rattle.std.proofs.Math.Option.{Option, none, some}
use Rattle.types.specs.Wrap.{wrap_suc}
use Rattle.queue_model.specs.Types.{Item, Stream, Options, Queue, Fragment, fragment, expired, Packet}
use Rattle.queue_model.specs.Answers.{is_refused, fragments_in}
use Rattle.queue_model.specs.Fill.{filling}
use Rattle.queue_model.specs.Streams.{find_stream, new_queue}
use Rattle.queue_model.specs.Refusals.{max_time}
use Rattle.queue_model.specs.Image.{write_image}
use Rattle.queue_model.specs.Run.{Call, produce, fill, restore, step}
use Rattle.queue_model.specs.Demands.{Typed, Created, fresh}
use Rattle.queue_model.specs.MidMessage.{Uninterleaved, NeverInterleaved}

-- ------------------------------------------------------------------ lists of fragments

-- Fragments of any form, the model's or the code's: whether one is a first one, and whether one goes on with another's message.
module _ {A : Type 0} (first : A → Bool) (Follows : A → A → Type 0) where
  -- The fragment directly before is one that g goes on with.
  abbrev pub Behind : Option A → A → Type 0
  Behind none g = ⊥
  Behind (some f) g = Follows f g

  -- Every fragment that is not a first one stands directly behind one that it goes on with; `before` is what stands before the list.
  abbrev pub UnbrokenBehind : Option A → List A → Type 0
  UnbrokenBehind before [] = Unit {0}
  UnbrokenBehind before (g ∷ gs) = (first g ≡ false → Behind before g) × UnbrokenBehind (some g) gs

-- What holds of every element.
abbrev pub All : {A : Type 0} → (A → Type 0) → List A → Type 0
All P [] = Unit {0}
All P (x ∷ xs) = P x × All P xs

-- The list never has another message between two fragments of one, by message ids: if no fragment between f and g begins g's message anew, then f and
-- all between are of g's message.
abbrev pub Together : {A : Type 0} → (A → Bool) → (A → ℕ) → List A → Type 0
Together {A} first id fs =
    (before between behind : List A) (f g : A)
    → fs ≡ before ++ (f ∷ (between ++ (g ∷ behind))) → first g ≡ false → All (λ (b : A). id b ≡ id g → first b ≡ false) between
    → All (λ (b : A). id b ≡ id g) (f ∷ between)

-- ------------------------------------------------------------------ the model's fragments

-- g goes on with f's message: "FSN grows by one a fragment", and f is not its last one.
pub record Continues (f g : Fragment) : Type 0 where
  pub same_message : g.message_id ≡ f.message_id
  pub same_stream : g.stream_id ≡ f.stream_id
  pub same_order : g.unordered ≡ f.unordered
  pub same_mid : g.mid ≡ f.mid
  pub same_ssn : g.ssn ≡ f.ssn
  pub next_fsn : g.fsn ≡ wrap_suc 32 f.fsn
  pub not_last : f.last ≡ false

abbrev pub starts : Fragment → Bool
starts f = f.first

-- The fragments of every sending of a message stand in order and with nothing between them. A message may stop short, where it expires or is discarded.
-- A head that the whole-queue reset
-- puts back whole is sent again from its first fragment on: that is another sending.
abbrev pub Unbroken : List Fragment → Type 0
Unbroken fs = UnbrokenBehind starts Continues none fs

-- ------------------------------------------------------------------ what a queue has sent

-- A call that neither switches interleaving on nor restores. A filling shows a packet; it stands in the list by the calls for the next fragment that it
-- is made of (document 02, 5/13;
-- `Request10Packets`).
abbrev pub Onward : Call → Queue → Type 0
Onward c q = Uninterleaved ⊥ (λ x. ⊥) c q

-- The queue and all fragments sent until it: of a new queue none; then those that the calls show; and over any number of changeovers, at any points, the
-- list goes on. The new host's queue is
-- a new one, created alike and without interleaving, that restores at any allowed time the image that this queue saves at any time (demand 2: it is
-- accepted). An image of unknown origin has
-- no place here: the fragments of its half-sent message are in no list.
pub data Sends (o : Options) : Queue → List Fragment → Type 0 where
  begins : Created o → Sends o (new_queue o) []
  goes_on : {q : Queue} {fs : List Fragment} → Sends o q fs → (c : Call) → Typed c → Onward c q → Sends o (step c q).next (fs ++ fragments_in (step c q).outcome.answer)
  changes_over : {q : Queue} {fs : List Fragment} → Sends o q fs → (saved now : ℕ) → now ≤ max_time → Sends o (step (restore o.store_length now (write_image saved q)) (fresh o false)).next fs

-- The fragments before saving and after restoring, put together.
unfoldable pub Request10Unbroken : Type 0
Request10Unbroken = (o : Options) (q : Queue) (fs : List Fragment) → Sends o q fs → Unbroken fs

-- So the list never has another message between two fragments of one.
unfoldable pub Request10Together : Type 0
Request10Together = (o : Options) (q : Queue) (fs : List Fragment) → Sends o q fs → Together starts (λ (f : Fragment). f.message_id) fs

-- A filling that is not refused goes on with the fragments of its calls, in order: those that its packet gives back (document 02, 5/13).
unfoldable pub Request10Packets : Type 0
Request10Packets =
    (o : Options) (q : Queue) (fs : List Fragment) (store places buffer now : ℕ) (p : Packet)
    → Sends o q fs → Typed (fill store places buffer now p) → is_refused (step (fill store places buffer now p) q).outcome.answer ≡ false
    → Sends o (step (fill store places buffer now p) q).next (fs ++ (filling store places now p.limit q).fragments)

-- ------------------------------------------------------------------ what comes next

-- The fragment g is of the message i of the stream k, and not its first one.
pub record RestOf (k : ℕ) (i : Item) (g : Fragment) : Type 0 where
  pub its_stream : g.stream_id ≡ k
  pub its_message : g.message_id ≡ i.message_id
  pub not_first : starts g ≡ false

-- "and send its rest first": in a queue that never had interleaving, while a stream's first message is half-sent and has not expired, the next fragment
-- is of it.
unfoldable pub Request10Rest : Type 0
Request10Rest =
    (o : Options) (q : Queue) (k : ℕ) (s : Stream) (i : Item) (is : List Item) (store places buffer now size : ℕ) (g : Fragment)
    → NeverInterleaved o q → find_stream k q.streams ≡ some s → s.items ≡ i ∷ is → 0 < i.offset → expired now i.expires_at ≡ false
    → (step (produce store places buffer now size) q).outcome.answer ≡ fragment g → RestOf k i g
