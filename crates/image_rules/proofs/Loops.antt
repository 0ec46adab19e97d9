-- The loops over the records, over plain values: a callee's result is a variable, what it ensures a hypothesis. Assumes nothing.
use mathlib.Core.Path.{◌≡◌, refl, sym, ap, ◌∙◌, subst}
use mathlib.Core.Bool.{Bool, true, false}
use mathlib.Core.List.{List}
use Prim.Native.Nat.{ℕ, zero, suc, ◌+◌, ◌-◌, ◌≤◌, ◌<◌}
use native.Mathlib.Nat.{sub-zero}
use native.Mathlib.Omega.{arith}
use borrow.Author.Tests.{lt-ltb, le-ltb, ltb-false}
use lib.Dec.{ltb, leb, eqb}
use Rattle.queue_words.specs.Flags.{pick}
use Rattle.payload_store.proofs.Cases.{pick_else, false_true}
use Rattle.handover_records.specs.Records.{stream_at_words, message_at}
use Rattle.handover_records.specs.declared.records.HandoverOutgoingStream.{HandoverOutgoingStream}
use Rattle.handover_records.specs.declared.records.HandoverStreamMessage.{HandoverStreamMessage}
use Rattle.image_rules.specs.Streams.{is_plain, streams_right_words, named}
use Rattle.image_rules.specs.Messages.{message_right_words, messages_right_words, message_kept, messages_kept}
use Rattle.image_rules.specs.Amounts.{payload_bytes_words, one_new, new_streams}
use Rattle.image_rules.proofs.Early.{kept_from, kept_none, kept_step}

-- ------------------------------------------------------------------ stream records

module _ (bs : List ℕ) (d n : ℕ) where
  pub streams_start : streams_right_words bs d 0 0 n ≡ streams_right_words bs d 0 0 (n - 0)
  streams_start = rw sub-zero

  module _ (at least i : ℕ) (inv : streams_right_words bs d 0 0 n ≡ streams_right_words bs d at least (n - i)) where
    module _ (h : i < n) (s : HandoverOutgoingStream) (es : s ≡ stream_at_words bs at) (p : Bool) (ep : p ≡ is_plain s d) where
      pub streams_plain : p ≡ true → false ≡ streams_right_words bs d 0 0 n
      unfolding streams_right_words
      streams_plain g =
          let e : n - i ≡ suc (n - (i + 1)) = omega arith in
          sym (inv ∙ rw (e, ← es, ← ep, g))

      pub streams_low : p ≡ false → s.id < least → false ≡ streams_right_words bs d 0 0 n
      unfolding streams_right_words
      streams_low g l =
          let e : n - i ≡ suc (n - (i + 1)) = omega arith in
          sym (inv ∙ rw (e, ← es, ← ep, g, lt-ltb _ _ l))

      pub streams_next : p ≡ false → least ≤ s.id → streams_right_words bs d 0 0 n ≡ streams_right_words bs d (at + 14) (s.id + 1) (n - (i + 1))
      unfolding streams_right_words
      streams_next g l =
          let e : n - i ≡ suc (n - (i + 1)) = omega arith in
          inv ∙ rw (e, ← es, ← ep, g, le-ltb _ _ l)

    pub streams_end : n ≤ i → true ≡ streams_right_words bs d 0 0 n
    unfolding streams_right_words
    streams_end g =
        let e : n - i ≡ 0 = omega arith in
        sym (inv ∙ rw e)

-- ------------------------------------------------------------------ message records

module _ (strict : Bool) (bs : List ℕ) (start size n : ℕ) where
  pub messages_start : messages_kept strict bs start size 0 n ≡ messages_kept strict bs start size 0 (n - 0)
  messages_start = rw sub-zero

  module _ (at left least i : ℕ) (inv : messages_kept strict bs start size 0 n ≡ messages_kept strict bs at left least (n - i)) where
    module _ (h : i < n) where
      step : messages_kept strict bs start size 0 n ≡ kept_from strict bs at left least (n - (i + 1))
      step =
          let e : n - i ≡ suc (n - (i + 1)) = omega arith in
          inv ∙ ap (messages_kept strict bs at left least) e ∙ kept_step strict bs at left least (n - (i + 1))

      pub messages_short : left < 44 → false ≡ messages_kept strict bs start size 0 n
      messages_short l = sym (step ∙ rw (lt-ltb _ _ l))

      module _ (l : 44 ≤ left) (m : HandoverStreamMessage) (em : m ≡ message_at bs at) where
        pub messages_over : left - 44 < m.length → false ≡ messages_kept strict bs start size 0 n
        messages_over g = sym (step ∙ rw (le-ltb _ _ l, ← em, lt-ltb _ _ g))

        module _ (f : m.length ≤ left - 44) where
          pub messages_low : m.id + 1 < least → false ≡ messages_kept strict bs start size 0 n
          messages_low g = sym (step ∙ rw (le-ltb _ _ l, ← em, le-ltb _ _ f, lt-ltb _ _ g))

          module _ (g : least ≤ m.id + 1) (r : Bool) (er : r ≡ message_kept strict m (leb least m.id)) where
            pub messages_wrong : r ≡ false → false ≡ messages_kept strict bs start size 0 n
            messages_wrong w = sym (step ∙ rw (le-ltb _ _ l, ← em, le-ltb _ _ f, le-ltb _ _ g, ← er, w))

            pub messages_next : r ≡ true → messages_kept strict bs start size 0 n ≡ messages_kept strict bs (at + 44 + m.length) (left - 44 - m.length) (m.id + 1) (n - (i + 1))
            messages_next w = step ∙ rw (le-ltb _ _ l, ← em, le-ltb _ _ f, le-ltb _ _ g, ← er, w)

    pub messages_end : n ≤ i → eqb left 0 ≡ messages_kept strict bs start size 0 n
    messages_end g =
        let e : n - i ≡ 0 = omega arith in
        sym (inv ∙ ap (messages_kept strict bs at left least) e ∙ kept_none strict bs at left least)

-- ------------------------------------------------------------------ what right message records say

-- The first of n + 1 records lies in its part, and the others keep the rules.
pub record First (bs : List ℕ) (at left least n : ℕ) : Type 0 where
  pub whole : 44 ≤ left
  pub fits : (message_at bs at).length ≤ left - 44
  pub order : least ≤ (message_at bs at).id + 1
  pub right : message_right_words (message_at bs at) (leb least (message_at bs at).id) ≡ true
  pub rest : messages_right_words bs (at + 44 + (message_at bs at).length) (left - 44 - (message_at bs at).length) ((message_at bs at).id + 1) n ≡ true

pub first_right : (bs : List ℕ) (at left least n : ℕ) → messages_right_words bs at left least (suc n) ≡ true → First bs at left least n
unfolding messages_right_words
first_right bs at left least n e =
    let a = pick_else (ltb left 44) false _ true false_true e in
    let b = pick_else (ltb (left - 44) (message_at bs at).length) false _ true false_true a.1 in
    let c = pick_else (ltb ((message_at bs at).id + 1) least) false _ true false_true b.1 in
    let r = by_pick (message_right_words (message_at bs at) (leb least (message_at bs at).id)) _ c.1 in
    record { whole = ltb-false left 44 a.0; fits = ltb-false (left - 44) (message_at bs at).length b.0; order = ltb-false ((message_at bs at).id + 1) least c.0; right = r.0; rest = r.1 }
  where
    by_pick : (t b : Bool) → pick t b false ≡ true → (t ≡ true) × (b ≡ true)
    by_pick true b e = (refl, e)
    by_pick false b e = false_true e

-- ------------------------------------------------------------------ sums over message records

-- From `at` on, the n records keep the rules in a part that lies in the first `size` bytes; `least` is one above the id before.
abbrev pub LiesFrom : List ℕ → ℕ → ℕ → ℕ → ℕ → Type 0
LiesFrom bs size at least n = (left : ℕ) × (at + left ≤ size) × (messages_right_words bs at left least n ≡ true)

pub from_start : (bs : List ℕ) (size start part n : ℕ) → start + part ≤ size → messages_right_words bs start part 0 n ≡ true → LiesFrom bs size start 0 (n - 0)
from_start bs size start part n k e = (part, k, rw sub-zero e)

module _ (bs : List ℕ) (size at least i n : ℕ) (lies : LiesFrom bs size at least (n - i)) (h : i < n) where
  from_first : (left : ℕ) × (at + left ≤ size) × First bs at left least (n - (i + 1))
  from_first =
      let (left, k, e) = lies in
      let s : n - i ≡ suc (n - (i + 1)) = omega arith in
      (left, k, first_right bs at left least (n - (i + 1)) (rw s at e))

  pub from_whole : at + 44 ≤ size
  from_whole = let (left, k, f) = from_first in omega (arith, k, f.whole)

  pub from_inside : (m : HandoverStreamMessage) → m ≡ message_at bs at → at + 44 + m.length ≤ size
  from_inside m em = let (left, k, f) = from_first in let g : m.length ≤ left - 44 = rw em f.fits in omega (arith, k, f.whole, g)

  pub from_order : (m : HandoverStreamMessage) → m ≡ message_at bs at → least ≤ m.id + 1
  from_order m em = let (left, k, f) = from_first in rw em f.order

  pub from_on : (m : HandoverStreamMessage) → m ≡ message_at bs at → LiesFrom bs size (at + 44 + m.length) (m.id + 1) (n - (i + 1))
  from_on m em =
      let (left, k, f) = from_first in
      subst (λ (x : HandoverStreamMessage). LiesFrom bs size (at + 44 + x.length) (x.id + 1) (n - (i + 1))) (sym em)
      (left - 44 - (message_at bs at).length, omega (arith, k, f.whole, f.fits), f.rest)

-- The same, whatever the id before.
abbrev pub Lies : List ℕ → ℕ → ℕ → ℕ → Type 0
Lies bs size at n = (least : ℕ) × LiesFrom bs size at least n

pub lies_start : (bs : List ℕ) (size start part n : ℕ) → start + part ≤ size → messages_right_words bs start part 0 n ≡ true → Lies bs size start (n - 0)
lies_start bs size start part n k e = (0, from_start bs size start part n k e)

module _ (bs : List ℕ) (size at i n : ℕ) (lies : Lies bs size at (n - i)) (h : i < n) where
  pub lies_whole : at + 44 ≤ size
  lies_whole = let (least, l) = lies in from_whole bs size at least i n l h

  pub lies_inside : (m : HandoverStreamMessage) → m ≡ message_at bs at → at + 44 + m.length ≤ size
  lies_inside m em = let (least, l) = lies in from_inside bs size at least i n l h m em

  pub lies_on : (m : HandoverStreamMessage) → m ≡ message_at bs at → Lies bs size (at + 44 + m.length) (n - (i + 1))
  lies_on m em = let (least, l) = lies in (m.id + 1, from_on bs size at least i n l h m em)

module _ (bs : List ℕ) (start n : ℕ) where
  pub bytes_start : payload_bytes_words bs start n ≡ 0 + payload_bytes_words bs start (n - 0)
  bytes_start = rw sub-zero (omega arith)

  module _ (at sum i : ℕ) (inv : payload_bytes_words bs start n ≡ sum + payload_bytes_words bs at (n - i)) where
    pub bytes_next : i < n → (m : HandoverStreamMessage) → m ≡ message_at bs at → payload_bytes_words bs start n ≡ sum + m.length + payload_bytes_words bs (at + 44 + m.length) (n - (i + 1))
    unfolding payload_bytes_words
    bytes_next h m em =
        let e : n - i ≡ suc (n - (i + 1)) = omega arith in
        let s : payload_bytes_words bs at (n - i) ≡ m.length + payload_bytes_words bs (at + 44 + m.length) (n - (i + 1)) = rw (e, ← em) in
        omega (arith, inv, s)

    pub bytes_end : n ≤ i → sum ≡ payload_bytes_words bs start n
    unfolding payload_bytes_words
    bytes_end g =
        let e : n - i ≡ 0 = omega arith in
        let s : payload_bytes_words bs at (n - i) ≡ 0 = rw e in
        omega (arith, inv, s)

module _ (bs : List ℕ) (records start n : ℕ) where
  pub new_start : new_streams bs records start 0 n ≡ 0 + new_streams bs records start 0 (n - 0)
  new_start = rw sub-zero (omega arith)

  module _ (at least sum i : ℕ) (inv : new_streams bs records start 0 n ≡ sum + new_streams bs records at least (n - i)) where
    pub new_next : i < n → (m : HandoverStreamMessage) → m ≡ message_at bs at → (k : ℕ) → k ≡ one_new bs records least m.id
        → new_streams bs records start 0 n ≡ sum + k + new_streams bs records (at + 44 + m.length) (m.id + 1) (n - (i + 1))
    unfolding new_streams
    new_next h m em k ek =
        let e : n - i ≡ suc (n - (i + 1)) = omega arith in
        let s : new_streams bs records at least (n - i) ≡ k + new_streams bs records (at + 44 + m.length) (m.id + 1) (n - (i + 1)) = rw (e, ← em, ← ek) in
        omega (arith, inv, s)

    pub new_end : n ≤ i → sum ≡ new_streams bs records start 0 n
    unfolding new_streams
    new_end g =
        let e : n - i ≡ 0 = omega arith in
        let s : new_streams bs records at least (n - i) ≡ 0 = rw e in
        omega (arith, inv, s)

pub one_le : (bs : List ℕ) (records least id k : ℕ) → k ≡ one_new bs records least id → k ≤ 1
unfolding one_new
one_le bs records least id k e = omega (arith, e, go (ltb id least) (named bs id 0 records))
  where
    go : (t u : Bool) → pick t 0 (pick u 0 1) ≤ 1
    go true u = omega arith
    go false true = omega arith
    go false false = omega arith

pub new_le : (bs : List ℕ) (records at least n : ℕ) → new_streams bs records at least n ≤ n
unfolding new_streams
new_le bs records at least zero = omega arith
new_le bs records at least (suc n) =
    omega (arith, one_le bs records least (message_at bs at).id _ refl, new_le bs records (at + 44 + (message_at bs at).length) ((message_at bs at).id + 1) n)

pub more_le : (bs : List ℕ) (records at least n k : ℕ) → k ≡ new_streams bs records at least n → n ≤ 1024 → k ≤ 1024
more_le bs records at least n k e h = omega (arith, e, h, new_le bs records at least n)
