-- Receiving bytes is the model's step. Assumes nothing.
use mathlib.Core.Path.{◌≡◌, refl, sym, ap, ◌∙◌, subst}
use mathlib.Core.Bool.{Bool, true, false}
use mathlib.Core.List.{List}
use mathlib.Core.Option.{Option, none, some}
use Prim.Native.Nat.{ℕ}
use borrow.Author.Tests.{eq-eqb, ne_eqb}
use lib.Dec.{T}
use lib.ListN.{length}
use lib.Pow.{are_bytes}
use Rattle.queue_model.specs.Refusals.{first_refusal}
use Rattle.queue_sending.specs.declared.data.Data.{Data}
use Rattle.chunks.specs.declared.chunk.Chunk as read
use Rattle.chunks.specs.declared.chunk.ChunkKind.{ChunkKind}
use Rattle.chunks.specs.declared.chunk.ChunkKind.TheVariants as kind
use Rattle.chunks.specs.ChunkRead.{ChunkRead}
use Rattle.chunks.specs.ChunkRead as reading
use Rattle.chunks.specs.Layout.{is_iData}
use Rattle.chunks.specs.Carried.{only_data, carried_data}
use Rattle.chunks.specs.Reading.{chunk, read_chunk, payload_of}
use Rattle.chunks.specs.Promise.{LaidOut}
use Rattle.chunks.proofs.Laid.{read_laid}
use Rattle.chunks.proofs.Back.{chunk_or_19, laid_read}
use Rattle.receiver_model.specs.Types.{Chunk, Receiver, refused, Step, reply}
use Rattle.receiver_model.specs.Receive.{same_kind, refused_or}
use Rattle.receiver_model.specs.Receive as model
use Rattle.receiver_model.specs.Run.{receive}
use Rattle.receiver_model.proofs.Lists.{Value, yes_is, no_is, value}
use Rattle.receiver_model.proofs.AnyCalls.{Settled}
use Rattle.receiver_model.proofs.Bounds.{Bounded}
use Rattle.receiver_model.proofs.Window.{Window, TypedTsn}
use Rattle.receiver_words.specs.Tables.{Header, word_at}
use Rattle.receiver_words.specs.Fragments.{FitsFragment}
use Rattle.receiver_words.specs.Chunks.{kind_of, chunk_of}
use Rattle.receiver_words.specs.declared.fragments.Fragment.{Fragment}
use Rattle.receiver_messages.specs.Keys.{interleaved_of}
use Rattle.receiver_fragments.specs.Received as answer
use Rattle.receiver_fragments.specs.Receiving.{Outcome, received, receive_fragment}
use Rattle.receiver_calls.specs.Receiving.{fragment_of, of_kind, receive_read, receive_as}
use Rattle.receiver_calls.specs.Receiving as calls
use Rattle.linked_receiver.specs.Good.{Carried, stands}
use Rattle.linked_receiver.specs.Promise.{Represents}
use Rattle.linked_receiver.specs.Receives.{answer_of}
use Rattle.linked_receiver.proofs.Receives.{receives}
use Rattle.receiver_runs.specs.Meaning.{chunk_as, chunk_read}
use Rattle.receiver_runs.proofs.Came.{Came, came_window, came_bounded}

-- A call of receiving with the lent store st, and what it left: the model's step on the receiver r.
pub record Receives (r : Receiver) (st : List ℕ) (c : Option Chunk) (o : Outcome) : Type 0 where
  pub represents : Represents o.words o.store (model.receive (length st) c r).next
  pub answered : answer_of o.answer ≡ (model.receive (length st) c r).answer

-- Receiving a fragment (crate linked_receiver) is such a call.
fragment_law : (ws st : List ℕ) (f : Fragment) (bs : List ℕ) (r : Receiver) → Represents ws st r → Window r → Bounded r → FitsFragment f → Carried (interleaved_of ws) f
    → Receives r st (some (chunk_of (kind_of (interleaved_of ws)) f bs)) (receive_fragment ws st (interleaved_of ws) f bs)
fragment_law ws st f bs r p w b fits carried =
    let e : stands p.rows ws st ≡ r = p.stands.is in
    let h = receives p.rows ws st p.stands.good f bs fits carried (subst Settled (sym e) b.settled) (subst Window (sym e) w) in
    subst (λ (x : Receiver). Receives x st (some (chunk_of (kind_of (interleaved_of ws)) f bs)) (receive_fragment ws st (interleaved_of ws) f bs)) e (record { represents = h.represents; answered = h.answers })

-- ------------------------------------------------------------------ a chunk that is read

read_same : (c d : read.Chunk) → reading.Read c ≡ reading.Read d → c ≡ d
read_same c d e = cc

abbrev carried_in : ChunkKind → ℕ → Data → ℕ → read.Chunk
carried_in k t d n = chunk k t (only_data (carried_data k d n))

carried_fields : (k : ChunkKind) (t : ℕ) (d : Data) (n : ℕ) → Carried (is_iData k) (fragment_of (carried_in k t d n))
carried_fields kind.Data t d n = refl
carried_fields kind.IData t d n = refl

-- What the reader gives has its widths, and no field that its chunk does not carry.
pub record ReadFits (bs : List ℕ) (c : read.Chunk) : Type 0 where
  pub fits : FitsFragment (fragment_of c)
  pub carried : Carried (is_iData c.kind) (fragment_of c)

pub read_fits : (bs : List ℕ) (c : read.Chunk) → T (are_bytes bs) → read_chunk bs ≡ reading.Read c → ReadFits bs c
read_fits bs c ok h =
    let l : LaidOut bs c.kind c.tsn c.fragment.«data» (payload_of c bs) = laid_read bs c ok h in
    let w = l.in_width in
    let e : c ≡ carried_in c.kind c.tsn c.fragment.«data» (length (payload_of c bs)) = read_same c _ (sym h ∙ read_laid bs c.kind c.tsn c.fragment.«data» (payload_of c bs) l) in
    record {
      fits = record { stream_fits = w.id_fits; ssn_fits = w.ssn_fits; tsn_fits = w.tsn_fits; mid_fits = w.mid_fits; fsn_fits = w.fsn_fits; ppid_fits = w.ppid_fits };
      carried = subst (λ (x : read.Chunk). Carried (is_iData x.kind) (fragment_of x)) (sym e) (carried_fields c.kind c.tsn c.fragment.«data» (length (payload_of c bs)));
    }

-- The model's call has TSNs of 32 bits.
pub typed_read : (n : ℕ) (bs : List ℕ) → T (are_bytes bs) → TypedTsn (receive n (chunk_read bs))
typed_read n bs ok =
    chunk_or_19 bs (TypedTsn (receive n (chunk_read bs)))
    (λ c h. subst (λ (x : ChunkRead). TypedTsn (receive n (chunk_as bs x))) (sym h) (read_fits bs c ok h).fits.tsn_fits)
    (λ h. subst (λ (x : ChunkRead). TypedTsn (receive n (chunk_as bs x))) (sym h) tt)

-- ------------------------------------------------------------------ the model's clauses

module _ (n : ℕ) (r : Receiver) where
  model_other : (c : Option Chunk) → (n ≡ r.store_length → ⊥) → model.receive n c r ≡ reply (refused 2) r
  unfolding model.receive first_refusal refused_or
  model_other none d = rw (ne_eqb n r.store_length d)
  model_other (some c) d = rw (ne_eqb n r.store_length d)

  model_none : n ≡ r.store_length → model.receive n none r ≡ reply (refused 19) r
  unfolding model.receive first_refusal refused_or
  model_none e = rw (eq-eqb n r.store_length e)

  model_kind : (c : Chunk) → n ≡ r.store_length → same_kind c.kind r.kind ≡ false → model.receive n (some c) r ≡ reply (refused 19) r
  unfolding model.receive first_refusal refused_or
  model_kind c e k = rw (eq-eqb n r.store_length e, k)

-- ------------------------------------------------------------------ the call

-- The store's length, and the kind, of the receiver that words and store are.
pub store_length : (ws st : List ℕ) (r : Receiver) → Represents ws st r → length st ≡ r.store_length
store_length ws st r p = sym p.stands.good.store_is ∙ ap (λ (x : Receiver). x.store_length) p.stands.is

kind_is : (ws st : List ℕ) (r : Receiver) → Represents ws st r → kind_of (interleaved_of ws) ≡ r.kind
kind_is ws st r p = ap (λ (x : Receiver). x.kind) p.stands.is

of_kind_lem : (k : ChunkKind) (b : Bool) → of_kind k b ≡ true → is_iData k ≡ b
of_kind_lem kind.Data true e = e
of_kind_lem kind.Data false e = refl
of_kind_lem kind.IData true e = refl
of_kind_lem kind.IData false e = sym e

other_kind : (k : ChunkKind) (b : Bool) → of_kind k b ≡ false → same_kind (kind_of (is_iData k)) (kind_of b) ≡ false
unfolding same_kind
other_kind kind.Data true e = refl
other_kind kind.Data false e = e
other_kind kind.IData true e = e
other_kind kind.IData false e = refl

-- Refused, nothing is changed.
refuses : (ws st : List ℕ) (r : Receiver) (c : Option Chunk) (o : Outcome) (n : ℕ) → Represents ws st r → o ≡ received (answer.Refused n) ws st → model.receive (length st) c r ≡ reply (refused n) r → Receives r st c o
refuses ws st r c o n p e m = record {
  represents = subst (λ (x : Outcome). Represents x.words x.store (model.receive (length st) c r).next) (sym e) (subst (Represents ws st) (ap (λ (s : Step). s.next) (sym m)) p);
  answered = ap (λ (x : Outcome). answer_of x.answer) e ∙ ap (λ (s : Step). s.answer) (sym m);
}

module _ (ws st bs : List ℕ) where
  call_right : length st ≡ word_at Header ws 0 1 → calls.receive ws st bs ≡ receive_as ws st bs (read_chunk bs)
  unfolding calls.receive
  call_right e = rw (eq-eqb (length st) (word_at Header ws 0 1) e)

  call_other : (length st ≡ word_at Header ws 0 1 → ⊥) → calls.receive ws st bs ≡ received (answer.Refused 2) ws st
  unfolding calls.receive
  call_other d = rw (ne_eqb (length st) (word_at Header ws 0 1) d)

  read_right : (c : read.Chunk) → of_kind c.kind (interleaved_of ws) ≡ true → receive_read ws st c bs ≡ receive_fragment ws st (interleaved_of ws) (fragment_of c) (payload_of c bs)
  unfolding receive_read
  read_right c e = rw e

  read_other : (c : read.Chunk) → of_kind c.kind (interleaved_of ws) ≡ false → receive_read ws st c bs ≡ received (answer.Refused 19) ws st
  unfolding receive_read
  read_other c e = rw e

-- A store of another length is refused with 2, as by the model, and changes nothing.
pub receive_other : (ws st st' bs : List ℕ) (r : Receiver) (c : Option Chunk) → Represents ws st r → (length st' ≡ length st → ⊥)
    → (calls.receive ws st' bs ≡ received (answer.Refused 2) ws st') × (model.receive (length st') c r ≡ reply (refused 2) r)
receive_other ws st st' bs r c p n = (
  call_other ws st' bs (λ e. n (e ∙ p.stands.good.store_is)),
  model_other (length st') r c (λ e. n (e ∙ sym (store_length ws st r p))),
)

module _ (ws st bs : List ℕ) (r : Receiver) (p : Represents ws st r) (v : Came r) (ok : T (are_bytes bs)) where
  read_law : (c : read.Chunk) → read_chunk bs ≡ reading.Read c → Value (of_kind c.kind (interleaved_of ws)) → Receives r st (some (chunk_of (kind_of (is_iData c.kind)) (fragment_of c) (payload_of c bs))) (receive_read ws st c bs)
  read_law c h (yes_is e) =
      let f = read_fits bs c ok h in
      let k : is_iData c.kind ≡ interleaved_of ws = of_kind_lem c.kind (interleaved_of ws) e in
      subst (λ (o : Outcome). Receives r st (some (chunk_of (kind_of (is_iData c.kind)) (fragment_of c) (payload_of c bs))) o) (sym (read_right ws st bs c e))
      (subst (λ (b : Bool). Receives r st (some (chunk_of (kind_of b) (fragment_of c) (payload_of c bs))) (receive_fragment ws st (interleaved_of ws) (fragment_of c) (payload_of c bs))) (sym k)
      (fragment_law ws st (fragment_of c) (payload_of c bs) r p (came_window r v) (came_bounded r v) f.fits (subst (λ (b : Bool). Carried b (fragment_of c)) k f.carried)))
  read_law c h (no_is e) =
      refuses ws st r _ (receive_read ws st c bs) 19 p (read_other ws st bs c e)
      (model_kind (length st) r (chunk_of (kind_of (is_iData c.kind)) (fragment_of c) (payload_of c bs)) (store_length ws st r p)
      (ap (same_kind (kind_of (is_iData c.kind))) (sym (kind_is ws st r p)) ∙ other_kind c.kind (interleaved_of ws) e))

  as_law : Receives r st (chunk_read bs) (receive_as ws st bs (read_chunk bs))
  as_law =
      chunk_or_19 bs (Receives r st (chunk_read bs) (receive_as ws st bs (read_chunk bs)))
      (λ c h. subst (λ (x : ChunkRead). Receives r st (chunk_as bs x) (receive_as ws st bs x)) (sym h) (read_law c h (value (of_kind c.kind (interleaved_of ws)))))
      (λ h. subst (λ (x : ChunkRead). Receives r st (chunk_as bs x) (receive_as ws st bs x)) (sym h) (refuses ws st r none (received (answer.Refused 19) ws st) 19 p refl (model_none (length st) r (store_length ws st r p))))

  -- Receiving bytes is the model's step.
  pub receive_law : Receives r st (chunk_read bs) (calls.receive ws st bs)
  receive_law = subst (Receives r st (chunk_read bs)) (sym (call_right ws st bs (sym p.stands.good.store_is))) as_law
