-- What an accepted image says of its records, by position. Assumes nothing.
use mathlib.Core.Path.{◌≡◌, refl, sym, ap, ap₂, subst}
use mathlib.Core.Bool.{Bool, true, false}
use mathlib.Core.List.{List}
use Prim.Native.Nat.{ℕ, zero, suc, ◌+◌, ◌-◌, ◌*◌, ◌≤◌, ◌<◌}
use native.Mathlib.Omega.{arith}
use borrow.Author.Tests.{ltb-true, ltb-false, eqb-true}
use lib.Dec.{eqb, ltb, leb}
use lib.ListN.{length}
use Rattle.queue_words.specs.Flags.{pick}
use Rattle.payload_store.proofs.Cases.{pick_else, pick_both, false_true}
use Rattle.handover_records.specs.declared.records.HandoverStreamMessage.{HandoverStreamMessage}
use Rattle.handover_records.specs.declared.records.Trailer.{Trailer}
use Rattle.handover_records.specs.Records.{message_at}
use Rattle.handover_records.specs.Positions.{message_place}
use Rattle.handover_records.proofs.Steps.{place_step}
use Rattle.image_rules.specs.Trailers.{trailer_in}
use Rattle.image_rules.specs.Messages.{numbers_right, lifetime_right, mid_right, order_right, message_right_words, messages_right_words}
use Rattle.image_rules.specs.Amounts.{payload_bytes_words, one_new, new_streams}
use Rattle.image_rules.specs.Cursor.{IdsRise}
use Rattle.image_rules.specs.Code.{rules_kept, amounts_fit, image_code_words}
use Rattle.image_rules.proofs.StreamFacts.{ids_of}
use Rattle.image_rules.proofs.Loops.{first_right}
use Rattle.image_rules.proofs.OneByOne.{place_zero}
use Rattle.image_rules.proofs.Kept.{Kept, kept, early_in, kept_both}

-- ------------------------------------------------------------------ message records

-- The rules of one message record, as facts.
pub record MessageFacts (m : HandoverStreamMessage) (head : Bool) : Type 0 where
  pub flags_few : m.flags ≤ 7
  pub zero_is : m.zero ≡ 0
  pub ms_fits : m.ms_left ≤ 2147483647
  pub length_some : 1 ≤ m.length
  pub length_fits : m.length ≤ 262144
  pub offset_in : m.offset < m.length
  pub lifetime_right_lem : lifetime_right m ≡ true
  pub mid_right_lem : mid_right m head ≡ true
  pub order_right_lem : order_right m ≡ true

pub message_facts : (m : HandoverStreamMessage) (head : Bool) → message_right_words m head ≡ true → MessageFacts m head
unfolding message_right_words numbers_right
message_facts m head e =
    let a = pick_both (pick (ltb 7 m.flags) false (pick (eqb m.zero 0) (pick (ltb 2147483647 m.ms_left) false (pick (ltb m.length 1) false (pick (ltb 262144 m.length) false (ltb m.offset m.length)))) false)) _ e in
    let b = pick_both (lifetime_right m) _ a.1 in
    let c = pick_both (mid_right m head) _ b.1 in
    let n1 = pick_else (ltb 7 m.flags) false _ true false_true a.0 in
    let n2 = pick_both (eqb m.zero 0) _ n1.1 in
    let n3 = pick_else (ltb 2147483647 m.ms_left) false _ true false_true n2.1 in
    let n4 = pick_else (ltb m.length 1) false _ true false_true n3.1 in
    let n5 = pick_else (ltb 262144 m.length) false _ true false_true n4.1 in
    record {
      flags_few = ltb-false 7 m.flags n1.0;
      zero_is = eqb-true m.zero 0 n2.0;
      ms_fits = ltb-false 2147483647 m.ms_left n3.0;
      length_some = ltb-false m.length 1 n4.0;
      length_fits = ltb-false 262144 m.length n5.0;
      offset_in = ltb-true m.offset m.length n5.1;
      lifetime_right_lem = b.0;
      mid_right_lem = c.0;
      order_right_lem = c.1;
    }

-- The record at a place in a part that ends at `finish`; `least` is one above the id before it.
pub record PlaceFacts (bs : List ℕ) (start finish least p : ℕ) : Type 0 where
  pub behind_start : start ≤ p
  pub inside : p + 44 + (message_at bs p).length ≤ finish
  pub order : least ≤ (message_at bs p).id + 1
  pub facts : MessageFacts (message_at bs p) (leb least (message_at bs p).id)

-- One above the id of the record before the k-th, `first` for the first record.
unfoldable pub least_at : List ℕ → ℕ → ℕ → ℕ → ℕ
least_at bs at first zero = first
least_at bs at first (suc k) = (message_at bs (message_place bs at k)).id + 1

least_step : (bs : List ℕ) (at first k : ℕ) → least_at bs (at + 44 + (message_at bs at).length) ((message_at bs at).id + 1) k ≡ least_at bs at first (suc k)
unfolding least_at message_place
least_step bs at first zero = refl
least_step bs at first (suc k) = ap (λ p. (message_at bs p).id + 1) (sym (place_step bs at k))

pub place_facts : (bs : List ℕ) (n at left first k : ℕ) → messages_right_words bs at left first n ≡ true → k < n → PlaceFacts bs at (at + left) (least_at bs at first k) (message_place bs at k)
place_facts bs zero at left first k e h = absurd (omega (arith, h))
place_facts bs (suc n) at left first zero e h =
    let f = first_right bs at left first n e in
    subst (PlaceFacts bs at (at + left) (least_at bs at first 0)) (sym (place_zero bs at))
    (unfold least_at in record {
      behind_start = omega arith;
      inside = omega (arith, f.whole, f.fits);
      order = f.order;
      facts = message_facts (message_at bs at) (leb first (message_at bs at).id) f.right;
    })
place_facts bs (suc n) at left first (suc k) e h =
    let f = first_right bs at left first n e in
    let g = place_facts bs n (at + 44 + (message_at bs at).length) (left - 44 - (message_at bs at).length) ((message_at bs at).id + 1) k f.rest (omega (arith, h)) in
    let z : at + 44 + (message_at bs at).length + (left - 44 - (message_at bs at).length) ≡ at + left = omega (arith, f.whole, f.fits) in
    let w : PlaceFacts bs (at + 44 + (message_at bs at).length) (at + left) (least_at bs at first (suc k)) (message_place bs at (suc k)) =
    subst (λ x. PlaceFacts bs (at + 44 + (message_at bs at).length) x (least_at bs at first (suc k)) (message_place bs at (suc k))) z
    (subst (λ x. PlaceFacts bs (at + 44 + (message_at bs at).length) (at + 44 + (message_at bs at).length + (left - 44 - (message_at bs at).length)) x (message_place bs at (suc k))) (least_step bs at first k)
    (subst (PlaceFacts bs (at + 44 + (message_at bs at).length) (at + 44 + (message_at bs at).length + (left - 44 - (message_at bs at).length)) (least_at bs (at + 44 + (message_at bs at).length) ((message_at bs at).id + 1) k)) (sym (place_step bs at k)) g)) in
    record { behind_start = omega (arith, w.behind_start); inside = w.inside; order = w.order; facts = w.facts }

-- ------------------------------------------------------------------ sums so far

pub bytes_snoc : (bs : List ℕ) (at k : ℕ) → payload_bytes_words bs at (suc k) ≡ payload_bytes_words bs at k + (message_at bs (message_place bs at k)).length
unfolding payload_bytes_words message_place
bytes_snoc bs at zero = omega arith
bytes_snoc bs at (suc k) =
    omega (arith, bytes_snoc bs (at + 44 + (message_at bs at).length) k, ap (λ p. (message_at bs p).length) (place_step bs at k))

pub bytes_up : (bs : List ℕ) (at k n : ℕ) → k ≤ n → payload_bytes_words bs at k ≤ payload_bytes_words bs at n
unfolding payload_bytes_words
bytes_up bs at zero n h = omega arith
bytes_up bs at (suc k) zero h = absurd (omega (arith, h))
bytes_up bs at (suc k) (suc n) h = omega (arith, bytes_up bs (at + 44 + (message_at bs at).length) k n (omega (arith, h)))

pub new_snoc : (bs : List ℕ) (records at first k : ℕ)
    → new_streams bs records at first (suc k) ≡ new_streams bs records at first k + one_new bs records (least_at bs at first k) (message_at bs (message_place bs at k)).id
unfolding new_streams message_place least_at
new_snoc bs records at first zero = omega arith
new_snoc bs records at first (suc k) =
    omega (
      arith,
      new_snoc bs records (at + 44 + (message_at bs at).length) ((message_at bs at).id + 1) k,
      ap₂ (λ l p. one_new bs records l (message_at bs p).id) (least_step bs at first k) (sym (place_step bs at k)),
    )

pub new_up : (bs : List ℕ) (records at first k n : ℕ) → k ≤ n → new_streams bs records at first k ≤ new_streams bs records at first n
unfolding new_streams
new_up bs records at first zero n h = omega arith
new_up bs records at first (suc k) zero h = absurd (omega (arith, h))
new_up bs records at first (suc k) (suc n) h = omega (arith, new_up bs records (at + 44 + (message_at bs at).length) ((message_at bs at).id + 1) k n (omega (arith, h)))

-- ------------------------------------------------------------------ the whole image

-- The amounts, as facts.
pub record AmountsFacts (bs : List ℕ) (t : Trailer) (len : ℕ) : Type 0 where
  pub streams_few : t.streams ≤ 256
  pub messages_few : t.messages ≤ 1024
  pub bytes_fit : payload_bytes_words bs t.streams_size t.messages ≤ len
  pub all_streams_few : t.streams + new_streams bs t.streams t.streams_size 0 t.messages ≤ 256

pub amounts_facts : (bs : List ℕ) (t : Trailer) (len : ℕ) → amounts_fit bs t len ≡ true → AmountsFacts bs t len
unfolding amounts_fit
amounts_facts bs t len e =
    let a = pick_else (ltb 256 t.streams) false _ true false_true e in
    let b = pick_else (ltb 1024 t.messages) false _ true false_true a.1 in
    let c = pick_else (ltb len (payload_bytes_words bs t.streams_size t.messages)) false _ true false_true b.1 in
    let f = pick_else (ltb 256 (t.streams + new_streams bs t.streams t.streams_size 0 t.messages)) false true true false_true c.1 in
    record {
      streams_few = ltb-false 256 t.streams a.0;
      messages_few = ltb-false 1024 t.messages b.0;
      bytes_fit = ltb-false len (payload_bytes_words bs t.streams_size t.messages) c.0;
      all_streams_few = ltb-false 256 (t.streams + new_streams bs t.streams t.streams_size 0 t.messages) f.0;
    }

-- All of an image with the trailer t that is accepted by a queue of default priority d with a store of len bytes, strict or not.
pub record Accepted (strict : Bool) (bs : List ℕ) (t : Trailer) (d len : ℕ) : Type 0 where
  pub long : 20 ≤ length bs
  pub rules : Kept bs t
  pub none_early : early_in strict bs t ≡ false
  pub priority : t.default_priority ≡ d
  pub amounts : AmountsFacts bs t len
  pub stream_inside : (k : ℕ) → k < t.streams → 14 * k + 14 ≤ length bs
  pub ids_rise : IdsRise bs t.streams
  pub message_at_lem : (k : ℕ) → k < t.messages → PlaceFacts bs t.streams_size (t.streams_size + t.messages_size) (least_at bs t.streams_size 0 k) (message_place bs t.streams_size k)
  pub message_inside : (k : ℕ) → k < t.messages → message_place bs t.streams_size k + 44 + (message_at bs (message_place bs t.streams_size k)).length + 20 ≤ length bs
  pub bytes_so_far : (k : ℕ) → k < t.messages → payload_bytes_words bs t.streams_size k + (message_at bs (message_place bs t.streams_size k)).length ≤ len
  pub streams_so_far : (k : ℕ) → k ≤ t.messages → t.streams + new_streams bs t.streams t.streams_size 0 k ≤ 256

all_facts : (strict : Bool) (bs : List ℕ) (t : Trailer) (d len : ℕ) → 20 ≤ length bs → Kept bs t → early_in strict bs t ≡ false → t.default_priority ≡ d → AmountsFacts bs t len → Accepted strict bs t d len
all_facts strict bs t d len h r n p a = record {
  long = h;
  rules = r;
  none_early = n;
  priority = p;
  amounts = a;
  stream_inside = λ k l. omega (arith, l, r.trailer.fills, r.trailer.whole);
  ids_rise = ids_of bs t.default_priority t.streams r.streams;
  message_at_lem = message;
  message_inside = λ k l. omega (arith, (message k l).inside, r.trailer.fills);
  bytes_so_far = λ k l. omega (arith, bytes_snoc bs t.streams_size k, bytes_up bs t.streams_size (suc k) t.messages (omega (arith, l)), a.bytes_fit);
  streams_so_far = λ k l. omega (arith, new_up bs t.streams t.streams_size 0 k t.messages l, a.all_streams_few);
}
  where
    message : (k : ℕ) → k < t.messages → PlaceFacts bs t.streams_size (t.streams_size + t.messages_size) (least_at bs t.streams_size 0 k) (message_place bs t.streams_size k)
    message k l = place_facts bs t.messages t.streams_size t.messages_size 0 k r.messages l

pub accepted_facts : (strict : Bool) (bs : List ℕ) (d len : ℕ) → image_code_words strict bs d len ≡ 0 → Accepted strict bs (trailer_in bs) d len
unfolding image_code_words
accepted_facts strict bs d len e =
    let a = pick_else (ltb (length bs) 20) 13 _ 0 (λ z. omega (arith, z)) e in
    let b = then_zero (rules_kept strict bs (trailer_in bs)) _ 13 (omega arith) a.1 in
    let c = then_zero (eqb (trailer_in bs).default_priority d) _ 14 (omega arith) b.1 in
    let f = then_zero (amounts_fit bs (trailer_in bs) len) 0 15 (omega arith) c.1 in
    let r = kept_both strict bs (trailer_in bs) b.0 in
    all_facts strict bs (trailer_in bs) d len (ltb-false (length bs) 20 a.0) (kept bs (trailer_in bs) r.0) r.1 (eqb-true (trailer_in bs).default_priority d c.0) (amounts_facts bs (trailer_in bs) len f.0)
  where
    then_zero : (t : Bool) (x y : ℕ) → 0 < y → pick t x y ≡ 0 → (t ≡ true) × (x ≡ 0)
    then_zero true x y h e = (refl, e)
    then_zero false x y h e = absurd (omega (arith, h, e))
