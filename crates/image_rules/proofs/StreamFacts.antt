-- What right stream records say: their ids rise. Assumes nothing.
use mathlib.Core.Path.{◌≡◌, ap}
use mathlib.Core.Bool.{true, false}
use mathlib.Core.List.{List}
use Prim.Native.Nat.{ℕ, zero, suc, ◌+◌, ◌*◌, ◌≤◌, ◌<◌}
use native.Mathlib.Omega.{arith}
use borrow.Author.Tests.{ltb-false}
use lib.Dec.{ltb}
use Rattle.payload_store.proofs.Cases.{pick_else, false_true}
use Rattle.handover_records.specs.Records.{stream_at_words}
use Rattle.image_rules.specs.Streams.{is_plain, streams_right_words}
use Rattle.image_rules.specs.Cursor.{IdsRise}

-- The first of n + 1 records, and the others.
pub record FirstStream (bs : List ℕ) (d at least n : ℕ) : Type 0 where
  pub real : is_plain (stream_at_words bs at) d ≡ false
  pub low : least ≤ (stream_at_words bs at).id
  pub rest : streams_right_words bs d (at + 14) ((stream_at_words bs at).id + 1) n ≡ true

pub right_first : (bs : List ℕ) (d at least n : ℕ) → streams_right_words bs d at least (suc n) ≡ true → FirstStream bs d at least n
unfolding streams_right_words
right_first bs d at least n e =
    let a = pick_else (is_plain (stream_at_words bs at) d) false _ true false_true e in
    let b = pick_else (ltb (stream_at_words bs at).id least) false _ true false_true a.1 in
    record { real = a.0; low = ltb-false (stream_at_words bs at).id least b.0; rest = b.1 }

place_on : (bs : List ℕ) (at k : ℕ) → stream_at_words bs (at + 14 + 14 * k) ≡ stream_at_words bs (at + 14 * suc k)
place_on bs at k = let e : at + 14 + 14 * k ≡ at + 14 * suc k = omega arith in ap (stream_at_words bs) e

-- No id is below the first allowed.
streams_low : (bs : List ℕ) (d n at least k : ℕ) → streams_right_words bs d at least n ≡ true → k < n → least ≤ (stream_at_words bs (at + 14 * k)).id
streams_low bs d zero at least k e h = absurd (omega (arith, h))
streams_low bs d (suc n) at least zero e h =
    let z : at + 14 * 0 ≡ at = omega arith in
    let f = right_first bs d at least n e in
    omega (arith, f.low, ap (λ p. (stream_at_words bs p).id) z)
streams_low bs d (suc n) at least (suc k) e h =
    let f = right_first bs d at least n e in
    omega (arith, f.low, streams_low bs d n (at + 14) ((stream_at_words bs at).id + 1) k f.rest (omega (arith, h)), ap (λ s. s.id) (place_on bs at k))

streams_rise : (bs : List ℕ) (d n at least i j : ℕ) → streams_right_words bs d at least n ≡ true → i < j → j < n → (stream_at_words bs (at + 14 * i)).id < (stream_at_words bs (at + 14 * j)).id
streams_rise bs d zero at least i j e h l = absurd (omega (arith, l))
streams_rise bs d (suc n) at least i zero e h l = absurd (omega (arith, h))
streams_rise bs d (suc n) at least zero (suc j) e h l =
    let z : at + 14 * 0 ≡ at = omega arith in
    let f = right_first bs d at least n e in
    omega (arith, streams_low bs d n (at + 14) ((stream_at_words bs at).id + 1) j f.rest (omega (arith, l)), ap (λ s. s.id) (place_on bs at j), ap (λ p. (stream_at_words bs p).id) z)
streams_rise bs d (suc n) at least (suc i) (suc j) e h l =
    let f = right_first bs d at least n e in
    omega (arith, streams_rise bs d n (at + 14) ((stream_at_words bs at).id + 1) i j f.rest (omega (arith, h)) (omega (arith, l)), ap (λ s. s.id) (place_on bs at i), ap (λ s. s.id) (place_on bs at j))

pub ids_of : (bs : List ℕ) (d n : ℕ) → streams_right_words bs d 0 0 n ≡ true → IdsRise bs n
ids_of bs d n e i j h l =
    let x : 0 + 14 * i ≡ 14 * i = omega arith in
    let y : 0 + 14 * j ≡ 14 * j = omega arith in
    omega (arith, streams_rise bs d n 0 0 i j e h l, ap (λ p. (stream_at_words bs p).id) x, ap (λ p. (stream_at_words bs p).id) y)
