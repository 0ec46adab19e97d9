-- Receiving a fragment is the model's step. Assumes nothing.
use mathlib.Core.Path.{◌≡◌, refl, sym, ap, ◌∙◌, subst}
use mathlib.Core.Bool.{Bool, true, false, not, ◌||◌}
use mathlib.Core.List.{List, ◌∷◌}
use mathlib.Core.Option.{Option, none, some}
use Prim.Native.Nat.{ℕ, suc, ◌^◌, ◌<◌}
use native.Mathlib.Omega.{arith}
use lib.Dec.{eqb}
use lib.ListN.{length}
use borrow.Author.Tests.{not-false}
use Rattle.queue_model.specs.Logic.{any}
use Rattle.receiver_model.specs.Lists.{count, member}
use Rattle.receiver_model.specs.Tsn.{is_after}
use Rattle.receiver_model.specs.Types.{Chunk, Assembled, Receiver, Step, reply, refused, repeated}
use Rattle.receiver_model.specs.Assembly.{whole_among, without_message}
use Rattle.receiver_model.specs.Receive.{pass, makes_repeat, same_place, next_in, set_next}
use Rattle.receiver_model.specs.Receive as model
use Rattle.receiver_model.proofs.Lists.{true≢false, or_left, or_right, Value, yes_is, no_is, value}
use Rattle.receiver_model.proofs.Settled.{Distinct}
use Rattle.receiver_model.proofs.AnyCalls.{older, Settled, grown_distinct, fewer_distinct}
use Rattle.receiver_model.proofs.Window.{Ahead, Window}
use Rattle.receiver_words.specs.Tables.{Header, word_at}
use Rattle.receiver_words.specs.Turns.{turn_at}
use Rattle.receiver_words.specs.Fragments.{fragment_at, FitsFragment}
use Rattle.receiver_words.specs.Index.{same_key_words}
use Rattle.receiver_words.specs.Search.{turn_from, find_turn}
use Rattle.receiver_words.specs.Chunks.{kind_of, chunk_of}
use Rattle.receiver_words.specs.declared.fragments.Fragment.{Fragment}
use Rattle.receiver_messages.specs.Keys.{interleaved_of}
use Rattle.receiver_messages.specs.Walks.{is_whole}
use Rattle.receiver_store.specs.Words.{payload_of}
use Rattle.receiver_fragments.specs.Checks.{last_of}
use Rattle.receiver_fragments.specs.Holding.{Kept, kept, hold, pass_tsn, settle}
use Rattle.receiver_fragments.specs.Receiving.{Outcome, received, receive_fragment}
use Rattle.receiver_fragments.specs.Receiving as words
use Rattle.receiver_fragments.specs.Received.{Refused, Repeated}
use Rattle.linked_receiver.specs.Good.{Ghost, Carried, GoodReceiver, chunk_in, stands}
use Rattle.linked_receiver.specs.Promise.{Represents}
use Rattle.linked_receiver.specs.Receives.{answer_of, Receives}
use Rattle.linked_receiver.proofs.HeldRows.{AnyHeld, one_held, none_held, any_held}
use Rattle.linked_receiver.proofs.Compares.{key_place}
use Rattle.linked_receiver.proofs.Judges.{last_is}
use Rattle.linked_receiver.proofs.Admits.{row_is, Admitted, Judged, refuses, repeats_it, accepts, judges}
use Rattle.linked_receiver.proofs.Passed.{ahead_more}
use Rattle.linked_receiver.proofs.Held.{rows_more, Held, holds}
use Rattle.linked_receiver.proofs.Others.{ahead_as, others_kind}
use Rattle.linked_receiver.proofs.Moves.{with_window, passed_tsn, passed_ahead, window_turns, window_known, window_others_are, window_good, window_stands, with_turns, turn_from_same}
use Rattle.linked_receiver.proofs.Settles.{with_queues}
use Rattle.linked_receiver.proofs.Accepts.{come, accept_none, accept_some, pass_fits, SettledAs, as_none, as_some, settles}

-- ------------------------------------------------------------------ a fragment that is accepted

module _ (g : Ghost) (ws st : List ℕ) (d : GoodReceiver g ws st) (f : Fragment) (bs : List ℕ) (fits : FitsFragment f) (carries : Carried (interleaved_of ws) f) (settled : Settled (stands g ws st))
    (window : Window (stands g ws st)) (a : Admitted g ws st d f bs) where
  abbrev b : Bool
  b = interleaved_of ws

  abbrev r : Receiver
  r = stands g ws st

  abbrev c : Chunk
  c = chunk_of (kind_of (interleaved_of ws)) f bs

  abbrev i : ℕ
  i = a.free.row

  abbrev others : List ℕ
  others = a.free.others

  -- it is no repeat
  parts : (not (is_after f.tsn r.last_tsn) || member f.tsn r.ahead) || any (makes_repeat r.kind c) (model.held r) ≡ false
  unfolding model.repeats
  parts = a.no_repeat

  early : not (is_after f.tsn r.last_tsn) || member f.tsn r.ahead ≡ false
  early = or_left (not (is_after f.tsn r.last_tsn) || member f.tsn r.ahead) (any (makes_repeat r.kind c) (model.held r)) parts

  after : is_after f.tsn r.last_tsn ≡ true
  after = not-false (is_after f.tsn r.last_tsn) (or_left (not (is_after f.tsn r.last_tsn)) (member f.tsn r.ahead) early)

  not_ahead : member f.tsn r.ahead ≡ false
  not_ahead = or_right (not (is_after f.tsn r.last_tsn)) (member f.tsn r.ahead) early

  no_place : interleaved_of ws ≡ true → (x : ℕ) → 0 < count x g.held → same_key_words 1 (fragment_at ws x) f ≡ false
  no_place e x h = go (value (same_key_words 1 (fragment_at ws x) f)) (any_held g ws st d (makes_repeat r.kind c))
    where
      none : any (makes_repeat r.kind c) (model.held r) ≡ false
      none = or_right (not (is_after f.tsn r.last_tsn) || member f.tsn r.ahead) (any (makes_repeat r.kind c) (model.held r)) parts

      in_place : same_key_words 1 (fragment_at ws x) f ≡ true → same_place r.kind c (chunk_in ws st x) ≡ true
      in_place k = ap (λ (v : Bool). same_place (kind_of v) c (chunk_in ws st x)) e ∙ key_place (kind_of b) f (fragment_at ws x) bs (payload_of ws st x) k

      go : Value (same_key_words 1 (fragment_at ws x) f) → AnyHeld g ws st d (makes_repeat r.kind c) → same_key_words 1 (fragment_at ws x) f ≡ false
      go (no_is k) v = k
      go (yes_is k) (one_held y hy t q) = absurd (true≢false q none)
      go (yes_is k) (none_held n q) = absurd (true≢false (in_place k) (or_right (eqb (fragment_at ws x).tsn f.tsn) (same_place r.kind c (chunk_in ws st x)) (unfold makes_repeat in n x h)))

  -- ---------------------------------------------------------------- it is held

  abbrev k1 : Kept
  k1 = hold ws st (interleaved_of ws) f bs i (word_at Header ws 0 4)

  abbrev w1 : List ℕ
  w1 = k1.words

  abbrev s1 : List ℕ
  s1 = k1.store

  abbrev g1 : Ghost
  g1 = rows_more i others g

  h : Held g ws st d i others a.free.free_is f bs fits a.roomy.fits carries a.no_tsn no_place k1
  h = holds g ws st d i others a.free.free_is f bs fits a.roomy.fits carries a.no_tsn no_place

  -- ---------------------------------------------------------------- its TSN is passed

  near : Ahead (word_at Header w1 0 2) (f.tsn ∷ g.ahead)
  near = subst (λ (l : ℕ). Ahead l (f.tsn ∷ g.ahead)) (sym h.last_is) (ahead_more (word_at Header ws 0 2) f.tsn g.ahead window.ahead fits.tsn_fits after a.near not_ahead)

  abbrev w2 : List ℕ
  w2 = pass_tsn w1 f.tsn (word_at Header w1 0 2)

  abbrev g2 : Ghost
  g2 = ahead_as (passed_ahead g1 w1 s1 h.good f.tsn near) g1

  moved : stands g2 w2 s1 ≡ with_window (passed_tsn g1 w1 s1 h.good f.tsn near) (passed_ahead g1 w1 s1 h.good f.tsn near) (stands g1 w1 s1)
  moved = window_stands g1 w1 s1 h.good f.tsn near

  d2 : GoodReceiver g2 w2 s1
  d2 =
      window_good g1 w1 s1 h.good f.tsn near
      (subst (λ (n : ℕ). n < 2 ^ 32) (sym (ap (λ (q : Receiver). q.last_tsn) moved)) (pass_fits (suc (length g.ahead)) (word_at Header w1 0 2) (f.tsn ∷ g.ahead) near.last_fits))

  -- the model's receiver so far
  came : stands g2 w2 s1 ≡ come c r
  came =
      moved
      ∙ (λ p. with_window (pass (suc (length g.ahead)) (h.last_is p) (f.tsn ∷ g.ahead)).last_tsn (pass (suc (length g.ahead)) (h.last_is p) (f.tsn ∷ g.ahead)).ahead (h.is p))

  kind2 : interleaved_of w2 ≡ interleaved_of ws
  kind2 = others_kind g1 w1 w2 s1 g.ahead h.good (window_others_are g1 w1 s1 h.good f.tsn near) ∙ h.kind_is

  loose2 : is_whole w2 i ≡ false
  loose2 = ap (λ (v : ℕ). eqb v 1) ((window_others_are g1 w1 s1 h.good f.tsn near).links i 2 a.free.inside (omega arith)) ∙ h.is_loose

  -- ---------------------------------------------------------------- its message is settled

  distinct2 : Distinct (kind_of (interleaved_of w2)) (c ∷ r.loose)
  distinct2 =
      subst (λ (v : Bool). Distinct (kind_of v) (c ∷ r.loose)) (sym kind2)
      (fewer_distinct r.kind (c ∷ model.held r) (c ∷ r.loose) (older c r) (grown_distinct c r settled.distinct a.no_repeat))

  none2 : whole_among (kind_of (interleaved_of w2)) r.loose r.loose ≡ none
  none2 = subst (λ (v : Bool). whole_among (kind_of v) r.loose r.loose ≡ none) (sym kind2) settled.none_whole

  abbrev s : ℕ
  s = f.stream.0

  abbrev t : ℕ
  t = find_turn ws f.stream.0

  turns2 : (n : ℕ) → n < 256 → turn_at w2 n ≡ turn_at ws n
  turns2 n l = window_turns g1 w1 s1 h.good f.tsn near n l ∙ h.turns_are n l

  known2 : word_at Header w2 0 3 ≡ word_at Header ws 0 3
  known2 = window_known g1 w1 s1 h.good f.tsn near ∙ h.known_is

  at2 : t ≡ turn_from w2 s 0 (word_at Header w2 0 3)
  at2 = row_is g ws st d f bs ∙ sym (ap (turn_from w2 s 0) known2 ∙ turn_from_same ws w2 s (word_at Header ws 0 3) 0 (let k = d.known_fits in omega arith) turns2)

  chunks2 : (stands g2 w2 s1).loose ≡ c ∷ r.loose
  chunks2 = ap (λ (q : Receiver). q.loose) came

  settled2 : SettledAs g2 w2 s1 d2 i g.held refl loose2 c r.loose chunks2 distinct2 none2 s t fits.stream_fits at2 a.roomy.stream
  settled2 = settles g2 w2 s1 d2 i g.held refl loose2 c r.loose chunks2 distinct2 none2 s t fits.stream_fits at2 a.roomy.stream

  represented : Represents (settle w2 (interleaved_of w2) s t i) s1 (model.accept c r)
  represented = go settled2
    where
      kinds : (o : Option Assembled) → whole_among (kind_of (interleaved_of w2)) (c ∷ r.loose) (c ∷ r.loose) ≡ o → whole_among r.kind (c ∷ r.loose) (c ∷ r.loose) ≡ o
      kinds o e = ap (λ (v : Bool). whole_among (kind_of v) (c ∷ r.loose) (c ∷ r.loose)) (sym kind2) ∙ e

      go : SettledAs g2 w2 s1 d2 i g.held refl loose2 c r.loose chunks2 distinct2 none2 s t fits.stream_fits at2 a.roomy.stream → Represents (settle w2 (interleaved_of w2) s t i) s1 (model.accept c r)
      go (as_none w p) =
          subst (Represents (settle w2 (interleaved_of w2) s t i) s1)
          ((λ j. with_turns (set_next s (next_in s (came j).turns) (came j).turns) (came j)) ∙ sym (accept_none c r (kinds none w)))
          p
      go (as_some m w p) =
          subst (Represents (settle w2 (interleaved_of w2) s t i) s1)
          ((λ j. let q = model.queue_up m.head.unordered (kind_of (kind2 j)) m (next_in s (came j).turns) (came j).waiting (came j).ready in
          with_turns (set_next s q.next (came j).turns) (with_queues (without_message m (c ∷ r.loose)) q (came j)))
          ∙ sym (accept_some c r m (kinds (some m) w)))
          p

  -- what the code leaves
  accept_is : words.accept ws st (interleaved_of ws) f bs (word_at Header ws 0 7) (find_turn ws f.stream.0) ≡ kept (settle w2 (interleaved_of w2) s t i) s1
  unfolding words.accept
  accept_is =
      ap (λ (j : ℕ). let k = hold ws st b f bs j (word_at Header ws 0 4) in kept (settle (pass_tsn k.words f.tsn (last_of ws)) b s t j) k.store) a.free.first_is
      ∙ (λ p. kept (settle (pass_tsn w1 f.tsn (last p)) (kind2' p) s t i) s1)
    where
      last : last_of ws ≡ word_at Header w1 0 2
      last = last_is g ws st d f bs a.no_tsn ∙ sym h.last_is

      kind2' : interleaved_of ws ≡ interleaved_of w2
      kind2' = sym kind2

  -- THE THEOREM of accepting
  pub record Accepts (k : Kept) : Type 0 where
    pub represents : Represents k.words k.store (model.accept (chunk_of (kind_of (interleaved_of ws)) f bs) (stands g ws st))
    pub same_store : length k.store ≡ length st

  pub accepts_it : Accepts (words.accept ws st (interleaved_of ws) f bs (word_at Header ws 0 7) (find_turn ws f.stream.0))
  accepts_it = subst Accepts (sym accept_is) (record { represents = represented; same_store = h.same_store })

-- ------------------------------------------------------------------ the call

module _ (g : Ghost) (ws st : List ℕ) (d : GoodReceiver g ws st) (f : Fragment) (bs : List ℕ) (fits : FitsFragment f) (carries : Carried (interleaved_of ws) f) (settled : Settled (stands g ws st))
    (window : Window (stands g ws st)) where
  abbrev whole : Receiver
  whole = stands g ws st

  unchanged : (s : Step) (o : Outcome) → o.words ≡ ws → o.store ≡ st → s.next ≡ whole → answer_of o.answer ≡ s.answer → model.receive (length st) (some (chunk_of (kind_of (interleaved_of ws)) f bs)) whole ≡ s
      → Receives whole st f bs o
  unchanged s o ew es en ea e = record {
    answers = ea ∙ sym (ap (λ (q : Step). q.answer) e);
    represents = subst (λ (q : Receiver). Represents o.words o.store q) (sym (ap (λ (q : Step). q.next) e ∙ en))
        (subst (λ (v : List ℕ). Represents v o.store whole) (sym ew) (subst (λ (v : List ℕ). Represents ws v whole) (sym es) (record { rows = g; stands = record { good = d; is = refl } })));
    same_store = ap length es;
  }

  -- THE THEOREM of receiving: the model's answer, and words of the model's next receiver
  pub receives : Receives (stands g ws st) st f bs (receive_fragment ws st (interleaved_of ws) f bs)
  receives = go (judges g ws st d f bs fits.tsn_fits window)
    where
      go : Judged g ws st d f bs (receive_fragment ws st (interleaved_of ws) f bs) → Receives whole st f bs (receive_fragment ws st (interleaved_of ws) f bs)
      go (refuses n e m) = subst (Receives whole st f bs) (sym e) (unchanged (reply (refused n) whole) (received (Refused n) ws st) refl refl refl refl m)
      go (repeats_it e m) = subst (Receives whole st f bs) (sym e) (unchanged (reply repeated whole) (received Repeated ws st) refl refl refl refl m)
      go (accepts a e m) = subst (Receives whole st f bs) (sym e) (record {
        answers = sym (ap (λ (q : Step). q.answer) m);
        represents = subst (λ (q : Receiver). Represents k.words k.store q) (sym (ap (λ (q : Step). q.next) m)) p.represents;
        same_store = p.same_store;
      })
        where
          k : Kept
          k = words.accept ws st (interleaved_of ws) f bs (word_at Header ws 0 7) (find_turn ws f.stream.0)

          p : Accepts g ws st d f bs fits carries settled window a k
          p = accepts_it g ws st d f bs fits carries settled window a

-- the same of words and store of a receiver r
pub receive_represents : (ws st : List ℕ) (f : Fragment) (bs : List ℕ) (r : Receiver) → Represents ws st r → Window r → Settled r → FitsFragment f → Carried (interleaved_of ws) f
    → Receives r st f bs (receive_fragment ws st (interleaved_of ws) f bs)
receive_represents ws st f bs r p w s fits carries =
    let e = p.stands.is in
    subst (λ (q : Receiver). Receives q st f bs (receive_fragment ws st (interleaved_of ws) f bs)) e
    (receives p.rows ws st p.stands.good f bs fits carries (subst Settled (sym e) s) (subst Window (sym e) w))
