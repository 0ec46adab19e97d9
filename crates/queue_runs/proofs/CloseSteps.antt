-- What a call leaves and shows of a stream that closes (request 3/13), on the code. Assumes nothing.
use mathlib.Core.Path.{◌≡◌, refl, sym, ap, subst, ◌∙◌}
use mathlib.Core.Bool.{true, false}
use mathlib.Core.List.{List, [], ◌∷◌, ◌++◌, append_assoc, append-nil}
use Prim.Native.Nat.{ℕ}
use borrow.Author.Tests.{eq-eqb, ne_eqb}
use lib.Dec.{eqb}
use lib.ListN.{length, drop}
use lib.Seq.{take-append_seam}
use Rattle.queue_model.specs.Logic.{any}
use Rattle.queue_model.specs.Types as plain
use Rattle.queue_model.specs.Types.{Item, Queue, Outcome, Fragment}
use Rattle.queue_model.specs.Reset.{paused_ids}
use Rattle.queue_model.specs.Calls as calls
use Rattle.queue_model.specs.Closing.{unsent, FurtherOn, Pending, Paused}
use Rattle.queue_model.specs.Run as run
use Rattle.queue_model.specs.Demands.{Reachable, called}
use Rattle.queue_model.proofs.Invariant.OneStream.{plain}
use Rattle.queue_model.proofs.Invariant.Fates.{plain_pending, plain_paused, ready_pending, Discards, discard_stays, discard_ends, discard_pending, discard_paused, Sends, send_stays, send_further, send_delivers, send_expires, produce_pending, produce_paused}
use Rattle.queue_model.proofs.Invariant.Closing.{paused_listed, pending_unlisted}
use Rattle.packets.specs.declared.packet.Packet.{Packet}
use Rattle.linked_restarts.specs.Ids.{ready_of}
use Rattle.linked_sending.specs.Meaning.{produced_of, buffer_of}
use Rattle.queue_runs.specs.Calls.{Call, add, produce, fill, discard, close, ready_ids, commit, rollback, reset, set_threshold, set_priority, set_interleaving, restore, ask_priority, ask_amount, ask_threshold, ask_total, ask_empty, ask_has_data, ask_streams_ready, ask_ready_count, ask_readiness, ask_room, call_of, Typed, Shown, readied}
use Rattle.queue_runs.specs.Run as runs
use Rattle.queue_runs.specs.Run.{State, step}
use Rattle.queue_runs.specs.Meaning.{queue_of, AllTyped, shown_of}
use Rattle.queue_runs.specs.Closing.{NotReset, ids_in, tells, Part, part_sent, part_in, AllOf, joined, Abandons, discards, expires}
use Rattle.queue_runs.proofs.Steps.{step_link, typed_call, store_small, meant}
use Rattle.queue_runs.proofs.Demand3.{Stands}
use Rattle.queue_runs.proofs.Account.{key_same}

-- ------------------------------------------------------------------ reached queues

pub stands_step : {o : plain.Options} {len : ℕ} (c : Call) (s : State) → Stands o len s → Typed c → Stands o len (step c s).next
stands_step {o} c s n t =
    let h = step_link c s n.good t in
    record {
      good = h.good;
      reachable = subst (Reachable o) (sym h.next_is) (called n.reachable (call_of (length s.store) c) (typed_call (length s.store) c (store_small s n.good) t));
      store_is = h.same_store ∙ n.store_is;
    }

pub stands_after : {o : plain.Options} {len : ℕ} (cs : List Call) (s : State) → Stands o len s → AllTyped cs → Stands o len (runs.after cs s)
unfolding runs.after
stands_after [] s n t = n
stands_after (c ∷ cs) s n t = stands_after cs (step c s).next (stands_step c s n t.0) t.1

-- ------------------------------------------------------------------ what calls show

-- The fragment of stream k that a call shows.
abbrev pub part : ℕ → Shown → List Part
part k o = part_in k o.answer o.buffer

-- The kinds of calls.
data Kind (k : ℕ) (c : Call) : Type 0 where
  sends_kind : (es bs : List ℕ) (time size : ℕ) → c ≡ produce es bs time size → Kind k c
  discards_kind : (es : List ℕ) (id m : ℕ) → c ≡ discard es id m → Kind k c
  ready_kind : c ≡ ready_ids → Kind k c
  reset_kind : c ≡ reset → Kind k c
  fills_kind : (es bs : List ℕ) (time : ℕ) (p : Packet) → c ≡ fill es bs time p → Kind k c
  plain_kind : ((len : ℕ) → plain (call_of len c) ≡ true) → ((o : Outcome) → part k (shown_of c o) ≡ []) → Kind k c

kind : (k : ℕ) (c : Call) → Kind k c
kind k (add time m payload) = plain_kind (λ len. refl) (λ o. refl)
kind k (produce es bs time size) = sends_kind es bs time size refl
kind k (fill es bs time p) = fills_kind es bs time p refl
kind k (discard es id m) = discards_kind es id m refl
kind k (close es id) = plain_kind (λ len. refl) (λ o. refl)
kind k ready_ids = ready_kind refl
kind k commit = plain_kind (λ len. refl) (λ o. refl)
kind k rollback = plain_kind (λ len. refl) (λ o. refl)
kind k reset = reset_kind refl
kind k (set_threshold es id t) = plain_kind (λ len. refl) (λ o. refl)
kind k (set_priority id p) = plain_kind (λ len. refl) (λ o. refl)
kind k (set_interleaving b) = plain_kind (λ len. refl) (λ o. refl)
kind k (restore time image) = plain_kind (λ len. refl) (λ o. refl)
kind k (ask_priority id) = plain_kind (λ len. refl) (λ o. refl)
kind k (ask_amount id) = plain_kind (λ len. refl) (λ o. refl)
kind k (ask_threshold id) = plain_kind (λ len. refl) (λ o. refl)
kind k ask_total = plain_kind (λ len. refl) (λ o. refl)
kind k ask_empty = plain_kind (λ len. refl) (λ o. refl)
kind k ask_has_data = plain_kind (λ len. refl) (λ o. refl)
kind k ask_streams_ready = plain_kind (λ len. refl) (λ o. refl)
kind k ask_ready_count = plain_kind (λ len. refl) (λ o. refl)
kind k ask_readiness = plain_kind (λ len. refl) (λ o. refl)
kind k (ask_room r) = plain_kind (λ len. refl) (λ o. refl)

-- A fragment of another stream, or none.
no_part : (k : ℕ) (a : plain.Answer) (n : ℕ) (bs : List ℕ) → ((f : Fragment) → a ≡ plain.fragment f → f.stream_id ≡ k → ⊥) → part_sent k (produced_of a n) (buffer_of a bs) ≡ []
no_part k (plain.refused r) n bs h = refl
no_part k plain.done n bs h = refl
no_part k (plain.number m) n bs h = refl
no_part k (plain.flag b) n bs h = refl
no_part k (plain.ids l) n bs h = refl
no_part k (plain.fragment f) n bs h = rw (key_same f.unordered (record { 0 = f.stream_id }), ne_eqb f.stream_id k (h f refl))
no_part k plain.nothing_waits n bs h = refl
no_part k (plain.filled cs m) n bs h = refl

-- One of this stream.
one_part : (k : ℕ) (f : Fragment) (n : ℕ) (bs : List ℕ) → f.stream_id ≡ k → part_sent k (produced_of (plain.fragment f) n) (buffer_of (plain.fragment f) bs) ≡ record { message = f.message_id; bytes = f.bytes } ∷ []
one_part k f n bs e = rw (key_same f.unordered (record { 0 = f.stream_id }), eq-eqb f.stream_id k e, take-append_seam f.bytes (drop (length f.bytes) bs))

pub all_append : (m : ℕ) (ps rs : List Part) → AllOf m ps → AllOf m rs → AllOf m (ps ++ rs)
all_append m [] rs a b = b
all_append m (p ∷ ps) rs a b = (a.0, all_append m ps rs a.1 b)

pub joined_append : (ps rs : List Part) → joined (ps ++ rs) ≡ joined ps ++ joined rs
joined_append [] rs = refl
joined_append (p ∷ ps) rs = ap (λ (l : List ℕ). p.bytes ++ l) (joined_append ps rs) ∙ sym (append_assoc p.bytes (joined ps) (joined rs))

-- ------------------------------------------------------------------ one call on a pending stream

pub data Turn (k : ℕ) (i : Item) (c : Call) (s : State) : Type 0 where
  turn_further : (j : Item) → Pending k j (queue_of (step c s).next) → AllOf i.message_id (part k (step c s).shows) → FurtherOn (joined (part k (step c s).shows)) i j → Turn k i c s
  turn_delivers : Paused k (queue_of (step c s).next) → AllOf i.message_id (part k (step c s).shows) → joined (part k (step c s).shows) ≡ unsent i → Turn k i c s
  turn_abandons : Paused k (queue_of (step c s).next) → Abandons k i c → Turn k i c s

module _ {o : plain.Options} {len : ℕ} (k : ℕ) (i : Item) (s : State) (n : Stands o len s) (p : Pending k i (queue_of s)) where
  turn_same : (c : Call) → Typed c → part k (shown_of c (meant c s).outcome) ≡ [] → Pending k i (meant c s).next → Turn k i c s
  turn_same c t e q =
      let h = step_link c s n.good t in
      let a : part k (step c s).shows ≡ [] = ap (part k) h.shows_are ∙ e in
      turn_further i (subst (Pending k i) (sym h.next_is) q) (subst (AllOf i.message_id) (sym a) tt)
      (subst (λ (ps : List Part). FurtherOn (joined ps) i i) (sym a) (record { same_message = refl; same_expiry = refl; bytes = refl }))

  turn_discard : (es : List ℕ) (id m : ℕ) → Typed (discard es id m) → Turn k i (discard es id m) s
  turn_discard es id m t = go (discard_pending k i _ id m (queue_of s) p)
    where
      c : Call
      c = discard es id m

      go : Discards k i id m (meant (discard es id m) s).next → Turn k i (discard es id m) s
      go (discard_stays q) = turn_same (discard es id m) t refl q
      go (discard_ends q e f) =
          turn_abandons (subst (Paused k) (sym (step_link (discard es id m) s n.good t).next_is) q)
          (subst (λ (x : ℕ). Abandons k i (discard es x m)) (sym e) (subst (λ (y : ℕ). Abandons k i (discard es k y)) (sym f) (discards es)))

  pub turn_produce : (es bs : List ℕ) (time size : ℕ) → Typed (produce es bs time size) → Turn k i (produce es bs time size) s
  turn_produce es bs time size t = go (produce_pending k i (length s.store) _ (length bs) time size (queue_of s) n.good.well p)
    where
      x : plain.Step
      x = meant (produce es bs time size) s

      shown_part : (a : plain.Answer) → (meant (produce es bs time size) s).outcome.answer ≡ a → part k (step (produce es bs time size) s).shows ≡ part_sent k (produced_of a (length (meant (produce es bs time size) s).outcome.events)) (buffer_of a bs)
      shown_part a e = ap (part k) (step_link (produce es bs time size) s n.good t).shows_are ∙ ap (λ (b : plain.Answer). part_sent k (produced_of b (length (meant (produce es bs time size) s).outcome.events)) (buffer_of b bs)) e

      next_paused : Paused k (meant (produce es bs time size) s).next → Paused k (queue_of (step (produce es bs time size) s).next)
      next_paused q = subst (Paused k) (sym (step_link (produce es bs time size) s n.good t).next_is) q

      only : (f : Fragment) → (meant (produce es bs time size) s).outcome.answer ≡ plain.fragment f → f.stream_id ≡ k → part k (step (produce es bs time size) s).shows ≡ record { message = f.message_id; bytes = f.bytes } ∷ []
      only f e a = shown_part (plain.fragment f) e ∙ one_part k f (length (meant (produce es bs time size) s).outcome.events) bs a

      go : Sends k i time (meant (produce es bs time size) s) → Turn k i (produce es bs time size) s
      go (send_stays h q) = turn_same (produce es bs time size) t (no_part k (meant (produce es bs time size) s).outcome.answer (length (meant (produce es bs time size) s).outcome.events) bs h) q
      go (send_further f j e a b g q) =
          turn_further j (subst (Pending k j) (sym (step_link (produce es bs time size) s n.good t).next_is) q) (subst (AllOf i.message_id) (sym (only f e a)) (b, tt))
          (subst (λ (ps : List Part). FurtherOn (joined ps) i j) (sym (only f e a)) (subst (λ (l : List ℕ). FurtherOn l i j) (sym (append-nil f.bytes)) g))
      go (send_delivers f e a b g q) =
          turn_delivers (next_paused q) (subst (AllOf i.message_id) (sym (only f e a)) (b, tt)) (ap joined (only f e a) ∙ append-nil f.bytes ∙ g)
      go (send_expires e q) = turn_abandons (next_paused q) (expires es bs time size e)

  pub turn : (c : Call) → Typed c → NotReset c → Turn k i c s
  turn c t r = go (kind k c)
    where
      go : Kind k c → Turn k i c s
      go (sends_kind es bs time size e) = subst (λ (x : Call). Turn k i x s) (sym e) (turn_produce es bs time size (subst Typed e t))
      go (discards_kind es id m e) = subst (λ (x : Call). Turn k i x s) (sym e) (turn_discard es id m (subst Typed e t))
      go (ready_kind e) = subst (λ (x : Call). Turn k i x s) (sym e) (turn_same ready_ids tt refl (ready_pending k i (queue_of s) p))
      go (reset_kind e) = absurd (r.0 e)
      go (fills_kind es bs time p e) = absurd (r.1 es bs time p e)
      go (plain_kind f g) = turn_same c t (g (meant c s).outcome) (plain_pending k i (call_of (length s.store) c) (queue_of s) (f (length s.store)) p)

-- ------------------------------------------------------------------ one call on a paused stream

pub data Rest (k : ℕ) (c : Call) (s : State) : Type 0 where
  rest_stays : Paused k (queue_of (step c s).next) → Rest k c s
  rest_told : tells k (step c s).shows ≡ true → Rest k c s

ready_shows : (q : Queue) → (run.step run.ready_ids q).outcome.answer ≡ plain.ids (paused_ids q.streams)
unfolding run.step calls.ready_ids
ready_shows q = refl

-- What the ready ids tell.
ready_ids_are : {o : plain.Options} {len : ℕ} (s : State) → Stands o len s → ids_in (step ready_ids s).shows.answer ≡ paused_ids (queue_of s).streams
ready_ids_are s n =
    ap (λ (x : Shown). ids_in x.answer) (step_link ready_ids s n.good tt).shows_are ∙ ap (λ (a : plain.Answer). ids_in (readied (ready_of a))) (ready_shows (queue_of s)) ∙ take-append_seam (paused_ids (queue_of s).streams) _

pub pending_untold : {o : plain.Options} {len : ℕ} (k : ℕ) (i : Item) (s : State) → Stands o len s → Pending k i (queue_of s) → tells k (step ready_ids s).shows ≡ false
pending_untold k i s n p = ap (any (eqb k)) (ready_ids_are s n) ∙ pending_unlisted k (queue_of s).streams p.stream n.good.well.rising p.found p.state

module _ {o : plain.Options} {len : ℕ} (k : ℕ) (s : State) (n : Stands o len s) (p : Paused k (queue_of s)) where
  -- "its id is among the ready ids"
  pub ready_tells : tells k (step ready_ids s).shows ≡ true
  ready_tells = ap (any (eqb k)) (ready_ids_are s n) ∙ paused_listed k (queue_of s).streams p.stream p.found p.state

  rest_same : (c : Call) → Typed c → Paused k (meant c s).next → Rest k c s
  rest_same c t q = rest_stays (subst (Paused k) (sym (step_link c s n.good t).next_is) q)

  pub rest : (c : Call) → Typed c → NotReset c → Rest k c s
  rest c t r = go (kind k c)
    where
      go : Kind k c → Rest k c s
      go (sends_kind es bs time size e) = subst (λ (x : Call). Rest k x s) (sym e) (rest_same (produce es bs time size) (subst Typed e t) (produce_paused k (length s.store) _ (length bs) time size (queue_of s) n.good.well p))
      go (discards_kind es id m e) = subst (λ (x : Call). Rest k x s) (sym e) (rest_same (discard es id m) (subst Typed e t) (discard_paused k _ id m (queue_of s) p))
      go (ready_kind e) = subst (λ (x : Call). Rest k x s) (sym e) (rest_told ready_tells)
      go (reset_kind e) = absurd (r.0 e)
      go (fills_kind es bs time p e) = absurd (r.1 es bs time p e)
      go (plain_kind f g) = rest_same c t (plain_paused k (call_of (length s.store) c) (queue_of s) (f (length s.store)) p)
