-- The first pass: what it ensures where it finds the words sound, and that its sums stay small. Assumes nothing.
use mathlib.Core.Path.{◌≡◌, refl, sym, ap, ◌∙◌, subst}
use mathlib.Core.Bool.{Bool, true, false}
use mathlib.Core.List.{List, [], ◌∷◌}
use Prim.Native.Nat.{ℕ, zero, suc, ◌+◌, ◌-◌, ◌≤◌, ◌<◌}
use native.Mathlib.Nat.{add-zero}
use native.Mathlib.Omega.{arith}
use borrow.Author.Tests.{ltb-true, ltb-false, lt-ltb, le-ltb, eqb-true}
use lib.Dec.{ltb, eqb}
use lib.ListN.{length}
use Rattle.queue_words.specs.Flags.{pick}
use Rattle.queue_words.specs.Header.{options_at, totals_at}
use Rattle.queue_words.specs.Items.{item_at}
use Rattle.queue_words.specs.Streams.{stream_at_words}
use Rattle.queue_words.specs.declared.items.Item.{Item}
use Rattle.queue_state.specs.Chains.{chain, sum_of}
use Rattle.queue_state.specs.Model.{next_of, row_at}
use Rattle.saving.specs.declared.measuring.Tally.{Tally}
use Rattle.saving.specs.Measure.{tally, tally_start, failed, sound_item, tally_item, tally_chain, ended, is_plain, records_of, tally_row, tally_stream, tally_from, tally_queue, Small}
use Rattle.saving.specs.Sound.{ItemOk, AllOk, places_at, StreamOk}
use Rattle.payload_store.proofs.Cases.{false_true}

-- ------------------------------------------------------------------ cases

pub pick_by : {A : Type 0} (G : A → Type 0) (b : Bool) (x y : A) → (b ≡ true → G x) → (b ≡ false → G y) → G (pick b x y)
pick_by G true x y f g = f refl
pick_by G false x y f g = g refl

picked : (b x : Bool) → pick b false x ≡ true → (b ≡ false) × (x ≡ true)
picked false x e = (refl, e)
picked true x e = false_true e

-- ------------------------------------------------------------------ a message

pub sound_ok : (m : Item) (len : ℕ) → sound_item m len ≡ true → ItemOk m len
unfolding sound_item
sound_ok m len e =
    let a = picked (ltb 262144 m.length) _ e in
    let b = picked (ltb len m.length) _ a.1 in
    let c = picked (ltb (len - m.length) m.place) (ltb m.offset m.length) b.1 in
    record {
      small = ltb-false 262144 m.length a.0;
      inside = omega (arith, ltb-false len m.length b.0, ltb-false (len - m.length) m.place c.0);
      unsent = ltb-true m.offset m.length c.1;
    }

pub ok_sound : (m : Item) (len : ℕ) → ItemOk m len → sound_item m len ≡ true
unfolding sound_item
ok_sound m len k =
    let i : m.place + m.length ≤ len = k.inside in
    rw (
      le-ltb 262144 m.length k.small,
      le-ltb len m.length (omega (arith, i)),
      le-ltb (len - m.length) m.place (omega (arith, i)),
    ) (lt-ltb m.offset m.length k.unsent)

abbrev pub advanced : Tally → Item → Tally
advanced t m = tally t.ok m.next t.streams (t.messages + 1) (t.bytes + (44 + m.length))

pub item_by : (G : Tally → Type 0) (t : Tally) (m : Item) (len : ℕ) → (ItemOk m len → t.messages < 1024 → G (advanced t m)) → G (failed t) → G (tally_item t m len)
unfolding tally_item
item_by G t m len y n = go (sound_item m len) refl (ltb t.messages 1024) refl
  where
    go : (a : Bool) → sound_item m len ≡ a → (b : Bool) → ltb t.messages 1024 ≡ b → G (pick a (pick b (advanced t m) (failed t)) (failed t))
    go true ea true eb = y (sound_ok m len ea) (ltb-true t.messages 1024 eb)
    go true ea false eb = n
    go false ea b eb = n

-- ------------------------------------------------------------------ the sums stay small

pub small_failed : (t : Tally) → Small t → Small (failed t)
small_failed t s = record { few = s.few; light = s.light }

pub small_item : (t : Tally) (m : Item) (len : ℕ) → Small t → Small (tally_item t m len)
small_item t m len s = item_by Small t m len (λ k h. record { few = omega (arith, h); light = omega (arith, s.light, k.small) }) (small_failed t s)

pub small_chain : (ws : List ℕ) (len : ℕ) (t : Tally) (f : ℕ) → Small t → Small (tally_chain ws len t f)
unfolding tally_chain
small_chain ws len t zero s = s
small_chain ws len t (suc f) s =
    pick_by Small (ltb 1023 t.place) t (tally_chain ws len (tally_item t (item_at ws t.place) len) f)
    (λ e. s)
    (λ e. small_chain ws len (tally_item t (item_at ws t.place) len) f (small_item t (item_at ws t.place) len s))

pub chain_streams : (ws : List ℕ) (len : ℕ) (t : Tally) (f : ℕ) → (tally_chain ws len t f).streams ≡ t.streams
unfolding tally_chain
chain_streams ws len t zero = refl
chain_streams ws len t (suc f) =
    pick_by (λ (u : Tally). u.streams ≡ t.streams) (ltb 1023 t.place) t (tally_chain ws len (tally_item t (item_at ws t.place) len) f)
    (λ e. refl)
    (λ e. chain_streams ws len (tally_item t (item_at ws t.place) len) f ∙ item_by (λ (u : Tally). u.streams ≡ t.streams) t (item_at ws t.place) len (λ k h. refl) refl)

-- a stream's part of the pass: a property of both ways, and of failing
pub stream_by : (G : Tally → Type 0) (ws : List ℕ) (len i : ℕ) (t : Tally)
    → G (failed t)
    → (row_at ws i < 256 → is_plain (stream_at_words ws (row_at ws i)) (options_at ws).default_priority ≡ true → G (ended (tally_chain ws len (tally t.ok (stream_at_words ws (row_at ws i)).first t.streams t.messages t.bytes) 1025)))
    → (row_at ws i < 256 → is_plain (stream_at_words ws (row_at ws i)) (options_at ws).default_priority ≡ false → G (ended (tally_chain ws len (tally t.ok (stream_at_words ws (row_at ws i)).first (t.streams + 1) t.messages t.bytes) 1025)))
    → G (tally_stream ws len i t)
unfolding tally_stream
stream_by G ws len i t x y z =
    pick_by G (ltb 255 (row_at ws i)) (failed t) (tally_row ws len (stream_at_words ws (row_at ws i)) t)
    (λ e. x)
    (λ e.
    let h : row_at ws i < 256 = omega (arith, ltb-false 255 (row_at ws i) e) in
    pick_by G (is_plain (stream_at_words ws (row_at ws i)) (options_at ws).default_priority)
    (ended (tally_chain ws len (tally t.ok (stream_at_words ws (row_at ws i)).first t.streams t.messages t.bytes) 1025))
    (ended (tally_chain ws len (tally t.ok (stream_at_words ws (row_at ws i)).first (t.streams + 1) t.messages t.bytes) 1025))
    (y h) (z h))

-- a chain's end: a property of the tally, and of failing
pub ended_by : (G : Tally → Type 0) (u : Tally) → (u.place ≡ 1024 → G u) → G (failed u) → G (ended u)
ended_by G u y n = pick_by G (eqb u.place 1024) u (failed u) (λ e. y (eqb-true u.place 1024 e)) (λ e. n)

pub small_ended : (u : Tally) → Small u → Small (ended u)
small_ended u s = ended_by Small u (λ e. s) (small_failed u s)

pub small_stream : (ws : List ℕ) (len i : ℕ) (t : Tally) → Small t → Small (tally_stream ws len i t)
small_stream ws len i t s =
    stream_by Small ws len i t (small_failed t s)
    (λ h e. small_ended _ (small_chain ws len _ 1025 (record { few = s.few; light = s.light })))
    (λ h e. small_ended _ (small_chain ws len _ 1025 (record { few = s.few; light = s.light })))

abbrev NotMore : ℕ → Tally → Type 0
NotMore n u = u.streams ≤ n

pub stream_streams : (ws : List ℕ) (len i : ℕ) (t : Tally) → (tally_stream ws len i t).streams ≤ t.streams + 1
stream_streams ws len i t =
    stream_by (NotMore (t.streams + 1)) ws len i t (omega arith)
    (λ h e. few (tally t.ok (stream_at_words ws (row_at ws i)).first t.streams t.messages t.bytes) (omega arith))
    (λ h e. few (tally t.ok (stream_at_words ws (row_at ws i)).first (t.streams + 1) t.messages t.bytes) (omega arith))
  where
    few : (u : Tally) → u.streams ≤ t.streams + 1 → (ended (tally_chain ws len u 1025)).streams ≤ t.streams + 1
    few u h =
        let e : (tally_chain ws len u 1025).streams ≡ u.streams = chain_streams ws len u 1025 in
        ended_by (NotMore (t.streams + 1)) (tally_chain ws len u 1025) (λ _. omega (arith, e, h)) (omega (arith, e, h))

pub small_start : Small tally_start
small_start = record { few = omega arith; light = omega arith }

pub small_from : (ws : List ℕ) (len : ℕ) (t : Tally) (i n : ℕ) → Small t → Small (tally_from ws len t i n)
unfolding tally_from
small_from ws len t i zero s = s
small_from ws len t i (suc n) s = small_from ws len (tally_stream ws len i t) (i + 1) n (small_stream ws len i t s)

pub from_streams : (ws : List ℕ) (len : ℕ) (t : Tally) (i n : ℕ) → (tally_from ws len t i n).streams ≤ t.streams + n
unfolding tally_from
from_streams ws len t i zero = omega arith
from_streams ws len t i (suc n) = omega (arith, from_streams ws len (tally_stream ws len i t) (i + 1) n, stream_streams ws len i t)

pub small_queue : (ws : List ℕ) (len : ℕ) → Small (tally_queue ws len)
unfolding tally_queue
small_queue ws len =
    pick_by Small (ltb 256 (totals_at ws).known) (failed tally_start) (tally_from ws len tally_start 0 (totals_at ws).known)
    (λ e. small_failed tally_start small_start)
    (λ e. small_from ws len tally_start 0 (totals_at ws).known small_start)

pub queue_streams : (ws : List ℕ) (len : ℕ) → (tally_queue ws len).streams ≤ 256
unfolding tally_queue
queue_streams ws len =
    pick_by (NotMore 256) (ltb 256 (totals_at ws).known) (failed tally_start) (tally_from ws len tally_start 0 (totals_at ws).known)
    (λ e. omega arith)
    (λ e. omega (arith, from_streams ws len tally_start 0 (totals_at ws).known, ltb-false 256 (totals_at ws).known e))

-- ------------------------------------------------------------------ what passed

-- the bytes of a message's record
abbrev pub size_at : List ℕ → ℕ → ℕ
size_at ws x = 44 + (item_at ws x).length

pub record ChainPassed (ws : List ℕ) (len : ℕ) (t : Tally) (ps : List ℕ) (u : Tally) : Type 0 where
  pub was_ok : t.ok ≡ true
  pub items : AllOk ws len ps
  pub count_is : u.messages ≡ t.messages + length ps
  pub bytes_is : u.bytes ≡ t.bytes + sum_of (size_at ws) ps

-- one message more, over what is known of the rest
chain_more : (ws : List ℕ) (len : ℕ) (t : Tally) (f : ℕ)
    → ((u : Tally) → (tally_chain ws len u f).ok ≡ true → ChainPassed ws len u (chain (next_of ws) u.place f) (tally_chain ws len u f))
    → (tally_chain ws len (tally_item t (item_at ws t.place) len) f).ok ≡ true
    → ChainPassed ws len t (t.place ∷ chain (next_of ws) (next_of ws t.place) f) (tally_chain ws len (tally_item t (item_at ws t.place) len) f)
chain_more ws len t f ih =
    item_by
    (λ (u : Tally). (tally_chain ws len u f).ok ≡ true → ChainPassed ws len t (t.place ∷ chain (next_of ws) (next_of ws t.place) f) (tally_chain ws len u f)) t (item_at ws t.place) len
    (λ o l w. joined (ih (advanced t (item_at ws t.place)) w) o)
    (λ w. false_true (ih (failed t) w).was_ok)
  where
    joined : {ps : List ℕ} {u : Tally} → ChainPassed ws len (advanced t (item_at ws t.place)) ps u → ItemOk (item_at ws t.place) len → ChainPassed ws len t (t.place ∷ ps) u
    joined r o = record { was_ok = r.was_ok; items = (o, r.items); count_is = omega (arith, r.count_is); bytes_is = omega (arith, r.bytes_is) }

pub chain_passed : (ws : List ℕ) (len : ℕ) (t : Tally) (f : ℕ) → (tally_chain ws len t f).ok ≡ true → ChainPassed ws len t (chain (next_of ws) t.place f) (tally_chain ws len t f)
unfolding tally_chain chain
chain_passed ws len t zero e = record { was_ok = e; items = tt; count_is = omega arith; bytes_is = omega arith }
chain_passed ws len t (suc f) e = go (λ u w. chain_passed ws len u f w) (ltb 1023 t.place) refl e
  where
    go : ((u : Tally) → (tally_chain ws len u f).ok ≡ true → ChainPassed ws len u (chain (next_of ws) u.place f) (tally_chain ws len u f)) → (b : Bool) → ltb 1023 t.place ≡ b
        → (pick b t (tally_chain ws len (tally_item t (item_at ws t.place) len) f)).ok ≡ true
        → ChainPassed ws len t (pick (ltb t.place 1024) (t.place ∷ chain (next_of ws) (next_of ws t.place) f) []) (pick b t (tally_chain ws len (tally_item t (item_at ws t.place) len) f))
    go ih true h k =
        let z : ltb t.place 1024 ≡ false = le-ltb t.place 1024 (ltb-true 1023 t.place h) in
        rw z (record { was_ok = k; items = tt; count_is = omega arith; bytes_is = omega arith })
    go ih false h k =
        let z : ltb t.place 1024 ≡ true = lt-ltb t.place 1024 (omega (arith, ltb-false 1023 t.place h)) in
        rw z (chain_more ws len t f ih k)

-- ------------------------------------------------------------------ a stream that passed

pub record StreamPassed (ws : List ℕ) (len : ℕ) (t : Tally) (i : ℕ) (u : Tally) : Type 0 where
  pub was_ok : t.ok ≡ true
  pub stream_ok : StreamOk ws len i
  pub streams_is : u.streams ≡ t.streams + records_of ws i
  pub count_is : u.messages ≡ t.messages + length (places_at ws i)
  pub bytes_is : u.bytes ≡ t.bytes + sum_of (size_at ws) (places_at ws i)

stream_passed_by : (ws : List ℕ) (len i k : ℕ) (t : Tally) → row_at ws i < 256 → records_of ws i ≡ k
    → (ended (tally_chain ws len (tally t.ok (stream_at_words ws (row_at ws i)).first (t.streams + k) t.messages t.bytes) 1025)).ok ≡ true
    → StreamPassed ws len t i (ended (tally_chain ws len (tally t.ok (stream_at_words ws (row_at ws i)).first (t.streams + k) t.messages t.bytes) 1025))
stream_passed_by ws len i k t h ek =
    ended_by (λ (u : Tally). u.ok ≡ true → StreamPassed ws len t i u) (tally_chain ws len v 1025)
    (λ _ e. from (chain_passed ws len v 1025 e))
    (λ e. false_true e)
  where
    v : Tally
    v = tally t.ok (stream_at_words ws (row_at ws i)).first (t.streams + k) t.messages t.bytes

    from : ChainPassed ws len v (places_at ws i) (tally_chain ws len v 1025) → StreamPassed ws len t i (tally_chain ws len v 1025)
    from r = record {
      was_ok = r.was_ok;
      stream_ok = record { row_in = h; items = r.items };
      streams_is = chain_streams ws len v 1025 ∙ ap (λ (n : ℕ). t.streams + n) (sym ek);
      count_is = r.count_is;
      bytes_is = r.bytes_is;
    }

pub stream_passed : (ws : List ℕ) (len i : ℕ) (t : Tally) → (tally_stream ws len i t).ok ≡ true → StreamPassed ws len t i (tally_stream ws len i t)
stream_passed ws len i t =
    stream_by (λ (u : Tally). u.ok ≡ true → StreamPassed ws len t i u) ws len i t
    (λ e. false_true e)
    (λ h p. zero_more h p)
    (λ h p. stream_passed_by ws len i 1 t h (rw p))
  where
    v : ℕ → Tally
    v n = ended (tally_chain ws len (tally t.ok (stream_at_words ws (row_at ws i)).first n t.messages t.bytes) 1025)

    zero_more : row_at ws i < 256 → is_plain (stream_at_words ws (row_at ws i)) (options_at ws).default_priority ≡ true → (v t.streams).ok ≡ true → StreamPassed ws len t i (v t.streams)
    zero_more h p = subst (λ (n : ℕ). (v n).ok ≡ true → StreamPassed ws len t i (v n)) (add-zero t.streams) (stream_passed_by ws len i 0 t h (rw p))
