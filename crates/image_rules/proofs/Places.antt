-- A place among the stream records that moves on counts the streams that no record names. Assumes nothing.
use mathlib.Core.Path.{◌≡◌, refl, sym, ap, ◌∙◌, subst}
use mathlib.Core.Bool.{Bool, true, false}
use mathlib.Core.List.{List}
use Prim.Native.Nat.{ℕ, zero, suc, ◌+◌, ◌-◌, ◌*◌, ◌≤◌, ◌<◌}
use native.Mathlib.Omega.{arith}
use borrow.Author.Tests.{lt-ltb, le-ltb, eq-eqb, ne_eqb}
use lib.Dec.{ltb, eqb}
use Rattle.queue_words.specs.Flags.{pick}
use Rattle.payload_store.proofs.Cases.{by_index}
use Rattle.handover_records.specs.declared.records.HandoverOutgoingStream.{HandoverOutgoingStream}
use Rattle.handover_records.specs.declared.records.HandoverStreamMessage.{HandoverStreamMessage}
use Rattle.handover_records.specs.Records.{stream_at_words, message_at}
use Rattle.image_rules.specs.declared.code.Counted.{Counted}
use Rattle.image_rules.specs.Streams.{named}
use Rattle.image_rules.specs.Amounts.{one_new}
use Rattle.image_rules.specs.Cursor.{IdsRise, below, moved_on_words, named_at, counted, one_counted}
use Rattle.image_rules.proofs.Loops.{LiesFrom, from_order, one_le}
use Rattle.queue_words.proofs.Finds.{by_lt}

-- ------------------------------------------------------------------ the loop that moves on

module _ (bs : List ℕ) (records id k : ℕ) where
  pub moved_here : k < records → (s : HandoverOutgoingStream) → s ≡ stream_at_words bs (14 * k) → id ≤ s.id → k ≡ moved_on_words bs records k id
  unfolding moved_on_words below
  moved_here h s es l =
      let e : records - k ≡ suc (records - (k + 1)) = omega arith in
      sym (rw (e, ← es, le-ltb s.id id l) (omega arith))

  pub moved_next : k < records → (s : HandoverOutgoingStream) → s ≡ stream_at_words bs (14 * k) → s.id < id → moved_on_words bs records k id ≡ moved_on_words bs records (k + 1) id
  unfolding moved_on_words below
  moved_next h s es l =
      let e : records - k ≡ suc (records - (k + 1)) = omega arith in
      let w : 14 * k + 14 ≡ 14 * (k + 1) = omega arith in
      rw (e, ← es, lt-ltb s.id id l, w) (omega arith)

  pub moved_end : records ≤ k → k ≡ moved_on_words bs records k id
  unfolding moved_on_words below
  moved_end h =
      let e : records - k ≡ 0 = omega arith in
      sym (rw e (omega arith))

-- ------------------------------------------------------------------ the records before and behind the place

-- The id of the j-th record from `at` on.
abbrev id_on : List ℕ → ℕ → ℕ → ℕ
id_on bs at j = (stream_at_words bs (at + 14 * j)).id

id_zero : (bs : List ℕ) (at : ℕ) → id_on bs at 0 ≡ (stream_at_words bs at).id
id_zero bs at = let z : at + 14 * 0 ≡ at = omega arith in ap (λ p. (stream_at_words bs p).id) z

id_suc : (bs : List ℕ) (at j : ℕ) → id_on bs (at + 14) j ≡ id_on bs at (suc j)
id_suc bs at j = let e : at + 14 + 14 * j ≡ at + 14 * suc j = omega arith in ap (λ p. (stream_at_words bs p).id) e

record BelowFacts (bs : List ℕ) (id at n b : ℕ) : Type 0 where
  most : b ≤ n
  low : (j : ℕ) → j < b → id_on bs at j < id
  high : b < n → id ≤ id_on bs at b

below_facts : (bs : List ℕ) (id at n : ℕ) → BelowFacts bs id at n (below bs id at n)
unfolding below
below_facts bs id at zero = record { most = omega arith; low = λ j h. absurd (omega (arith, h)); high = λ h. absurd (omega (arith, h)) }
below_facts bs id at (suc n) = by_lt (stream_at_words bs at).id id (less (below_facts bs id (at + 14) n)) more
  where
    less : BelowFacts bs id (at + 14) n (below bs id (at + 14) n) → (stream_at_words bs at).id < id → BelowFacts bs id at (suc n) (pick (ltb (stream_at_words bs at).id id) (below bs id (at + 14) n + 1) 0)
    less f h = rw (lt-ltb (stream_at_words bs at).id id h) (next (below bs id (at + 14) n) f h)
      where
        next : (b : ℕ) → BelowFacts bs id (at + 14) n b → (stream_at_words bs at).id < id → BelowFacts bs id at (suc n) (b + 1)
        next b f h = record {
          most = omega (arith, f.most);
          low = low;
          high = λ l. let z : suc b ≡ b + 1 = omega arith in omega (arith, f.high (omega (arith, l)), id_suc bs at b, ap (id_on bs at) z);
        }
          where
            low : (j : ℕ) → j < b + 1 → id_on bs at j < id
            low zero l = omega (arith, id_zero bs at, h)
            low (suc j) l = omega (arith, f.low j (omega (arith, l)), id_suc bs at j)

    more : id ≤ (stream_at_words bs at).id → BelowFacts bs id at (suc n) (pick (ltb (stream_at_words bs at).id id) (below bs id (at + 14) n + 1) 0)
    more h = rw (le-ltb (stream_at_words bs at).id id h) (record { most = omega arith; low = λ j l. absurd (omega (arith, l)); high = λ l. omega (arith, h, id_zero bs at) })

-- Every record before place k is of a stream below `least`.
abbrev pub Past : List ℕ → ℕ → ℕ → Type 0
Past bs least k = (j : ℕ) → j < k → (stream_at_words bs (14 * j)).id < least

record MovedFacts (bs : List ℕ) (records id k : ℕ) : Type 0 where
  most : k ≤ records
  past : Past bs id k
  high : k < records → id ≤ (stream_at_words bs (14 * k)).id

moved_facts : (bs : List ℕ) (records id k : ℕ) → k ≤ records → Past bs id k → MovedFacts bs records id (moved_on_words bs records k id)
unfolding moved_on_words
moved_facts bs records id k h p = go (below bs id (14 * k) (records - k)) (below_facts bs id (14 * k) (records - k))
  where
    go : (b : ℕ) → BelowFacts bs id (14 * k) (records - k) b → MovedFacts bs records id (k + b)
    go b f = record {
      most = omega (arith, h, f.most);
      past = λ j l. by_lt j k (p j) (λ g. let e : 14 * k + 14 * (j - k) ≡ 14 * j = omega (arith, g) in omega (arith, f.low (j - k) (omega (arith, l, g)), ap (λ x. (stream_at_words bs x).id) e));
      high = λ l. let e : 14 * k + 14 * b ≡ 14 * (k + b) = omega arith in omega (arith, f.high (omega (arith, l)), ap (λ x. (stream_at_words bs x).id) e);
    }

-- ------------------------------------------------------------------ whether a record names a stream

named_true : (bs : List ℕ) (id at n j : ℕ) → j < n → id_on bs at j ≡ id → named bs id at n ≡ true
unfolding named
named_true bs id at zero j h e = absurd (omega (arith, h))
named_true bs id at (suc n) zero h e = rw (eq-eqb (stream_at_words bs at).id id (sym (id_zero bs at) ∙ e))
named_true bs id at (suc n) (suc j) h e = ap (pick (eqb (stream_at_words bs at).id id) true) (named_true bs id (at + 14) n j (omega (arith, h)) (id_suc bs at j ∙ e)) ∙ go (eqb (stream_at_words bs at).id id)
  where
    go : (b : Bool) → pick b true true ≡ true
    go true = refl
    go false = refl

named_false : (bs : List ℕ) (id at n : ℕ) → ((j : ℕ) → j < n → id_on bs at j ≡ id → ⊥) → named bs id at n ≡ false
unfolding named
named_false bs id at zero h = refl
named_false bs id at (suc n) h =
    rw (ne_eqb (stream_at_words bs at).id id (λ e. h 0 (omega arith) (id_zero bs at ∙ e)))
    (named_false bs id (at + 14) n (λ j l e. h (suc j) (omega (arith, l)) (sym (id_suc bs at j) ∙ e)))

id_start : (bs : List ℕ) (j : ℕ) → id_on bs 0 j ≡ (stream_at_words bs (14 * j)).id
id_start bs j = let e : 0 + 14 * j ≡ 14 * j = omega arith in ap (λ p. (stream_at_words bs p).id) e

named_same : (bs : List ℕ) (records id k : ℕ) → IdsRise bs records → MovedFacts bs records id k → named bs id 0 records ≡ named_at bs records k id
unfolding named_at
named_same bs records id k rise f = by_lt k records within beyond
  where
    within : k < records → named bs id 0 records ≡ pick (ltb k records) (eqb (stream_at_words bs (14 * k)).id id) false
    within h = by_index (stream_at_words bs (14 * k)).id id
        (λ e. named_true bs id 0 records k h (id_start bs k ∙ e) ∙ sym (rw (lt-ltb k records h, eq-eqb (stream_at_words bs (14 * k)).id id e)))
        (λ ne. named_false bs id 0 records (apart ne) ∙ sym (rw (lt-ltb k records h, ne_eqb (stream_at_words bs (14 * k)).id id ne)))
      where
        apart : ((stream_at_words bs (14 * k)).id ≡ id → ⊥) → (j : ℕ) → j < records → id_on bs 0 j ≡ id → ⊥
        apart ne j l e = by_lt j k (λ g. omega (arith, f.past j g, id_start bs j, e))
            (λ g. by_index k j (λ z. ne (ap (λ x. (stream_at_words bs (14 * x)).id) z ∙ sym (id_start bs j) ∙ e))
            (λ nz. omega (arith, rise k j (omega (arith, g, nz)) l, f.high h, id_start bs j, e)))

    beyond : records ≤ k → named bs id 0 records ≡ pick (ltb k records) (eqb (stream_at_words bs (14 * k)).id id) false
    beyond h = named_false bs id 0 records (λ j l e. omega (arith, f.past j (omega (arith, h, l)), id_start bs j, e)) ∙ sym (rw (le-ltb k records h))

-- ------------------------------------------------------------------ one message

pub record CountedFacts (bs : List ℕ) (records least id : ℕ) (c : Counted) : Type 0 where
  pub one : c.more ≡ one_new bs records least id
  pub most : c.place ≤ records
  pub past : Past bs (id + 1) c.place

pub counted_facts : (bs : List ℕ) (records k least id : ℕ) (c : Counted) → c ≡ one_counted bs records k least id → IdsRise bs records → k ≤ records → Past bs least k → least ≤ id + 1
    → CountedFacts bs records least id c
unfolding one_counted one_new
counted_facts bs records k least id c e rise h p o = subst (CountedFacts bs records least id) (sym e) (by_lt id least same other)
  where
    same : id < least → CountedFacts bs records least id (pick (ltb id least) (counted k 0)
        (pick (named_at bs records (moved_on_words bs records k id) id) (counted (moved_on_words bs records k id) 0) (counted (moved_on_words bs records k id) 1)))
    same l = rw (lt-ltb id least l) (record { one = sym (rw (lt-ltb id least l)); most = h; past = λ j g. omega (arith, p j g, l, o) })

    other : least ≤ id → CountedFacts bs records least id (pick (ltb id least) (counted k 0)
        (pick (named_at bs records (moved_on_words bs records k id) id) (counted (moved_on_words bs records k id) 0) (counted (moved_on_words bs records k id) 1)))
    other l = rw (le-ltb id least l) (go (moved_on_words bs records k id) (moved_facts bs records id k h (λ j g. omega (arith, p j g, l))))
      where
        go : (m : ℕ) → MovedFacts bs records id m → CountedFacts bs records least id (pick (named_at bs records m id) (counted m 0) (counted m 1))
        go m f = turn (named_at bs records m id) (named_same bs records id m rise f)
          where
            turn : (b : Bool) → named bs id 0 records ≡ b → CountedFacts bs records least id (pick b (counted m 0) (counted m 1))
            turn true e = record { one = sym (rw (le-ltb id least l, e)); most = f.most; past = λ j g. omega (arith, f.past j g) }
            turn false e = record { one = sym (rw (le-ltb id least l, e)); most = f.most; past = λ j g. omega (arith, f.past j g) }

-- The same in a turn of the loop over the messages.
pub turn_facts : (bs : List ℕ) (size records place at least i n : ℕ) → IdsRise bs records → place ≤ records → Past bs least place → LiesFrom bs size at least (n - i) → i < n
    → (m : HandoverStreamMessage) → m ≡ message_at bs at → (c : Counted) → c ≡ one_counted bs records place least m.id → CountedFacts bs records least m.id c
turn_facts bs size records place at least i n rise h p l t m em c ec = counted_facts bs records place least m.id c ec rise h p (from_order bs size at least i n l t m em)

pub turn_le : (bs : List ℕ) (records least id : ℕ) (c : Counted) → CountedFacts bs records least id c → c.more ≤ 1
turn_le bs records least id c f = one_le bs records least id c.more f.one
