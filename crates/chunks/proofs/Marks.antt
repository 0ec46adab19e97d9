-- The three marks in a number of flags, and a stream key in its parts. Assumes nothing.
use mathlib.Core.Path.{◌≡◌, refl}
use mathlib.Core.Bool.{Bool, true, false}
use Prim.Native.Nat.{ℕ, zero, suc, ◌+◌, ◌*◌, ◌/◌, ◌%◌, ◌≤◌, ◌<◌}
use native.Mathlib.Nat.{zero-lt-suc, div-one}
use native.Mathlib.Omega.{arith}
use lib.Arith.{mod-mul}
use lib.Dec.{eqb}
use Rattle.types.specs.declared.StreamId.{StreamId}
use Rattle.types.specs.declared.StreamKey.{StreamKey}
use Rattle.types.specs.declared.StreamKey.TheVariants.{Ordered, Unordered}
use Rattle.types.specs.Keys.{key_of, key_id, key_unordered}
use Rattle.queue_words.specs.Flags.{bit}
use Rattle.std.specs.Prelude.{if◌then◌else◌}
use Rattle.chunks.specs.Reading.{is_set}

pick_bit : (t : Bool) (v : ℕ) → if◌then◌else◌ t v 0 ≡ v * bit t
pick_bit true v = omega arith
pick_bit false v = omega arith

bit_most : (t : Bool) → bit t ≤ 1
bit_most true = omega arith
bit_most false = omega arith

is_bit : (x : ℕ) (t : Bool) → x ≡ bit t → eqb x 1 ≡ t
is_bit x true e = rw e
is_bit x false e = rw e

bit_is : (x : ℕ) → x < 2 → bit (eqb x 1) ≡ x
bit_is zero h = refl
bit_is (suc zero) h = refl
bit_is (suc (suc x)) h = absurd (omega arith)

pub pick_less : (t : Bool) (a b m : ℕ) → a < m → b < m → if◌then◌else◌ t a b < m
pick_less true a b m h k = h
pick_less false a b m h k = k

-- flags with the marks u, b and e have them
pub record Marked (flags : ℕ) (u b e : Bool) : Type 0 where
  pub unordered : is_set flags 4 ≡ u
  pub first : is_set flags 2 ≡ b
  pub last : is_set flags 1 ≡ e

pub marked : (flags : ℕ) (u b e : Bool) → flags % 8 ≡ if◌then◌else◌ u 4 0 + if◌then◌else◌ b 2 0 + if◌then◌else◌ e 1 0 → Marked flags u b e
marked flags u b e h =
    let s : flags % 8 ≡ 4 * bit u + 2 * bit b + 1 * bit e = rw (pick_bit, pick_bit, pick_bit) at h in
    record {
      unordered = is_bit (flags / 4 % 2) u (omega (arith, s, bit_most u, bit_most b, bit_most e));
      first = is_bit (flags / 2 % 2) b (omega (arith, s, bit_most u, bit_most b, bit_most e));
      last = is_bit (flags / 1 % 2) e (omega (arith, s, bit_most u, bit_most b, bit_most e));
    }

-- the marks that flags have are their last three bits
pub marks_are : (flags : ℕ) → flags % 8 ≡ if◌then◌else◌ (is_set flags 4) 4 0 + if◌then◌else◌ (is_set flags 2) 2 0 + if◌then◌else◌ (is_set flags 1) 1 0
marks_are flags =
    let u : bit (is_set flags 4) ≡ flags / 4 % 2 = bit_is (flags / 4 % 2) (omega arith) in
    let b : bit (is_set flags 2) ≡ flags / 2 % 2 = bit_is (flags / 2 % 2) (omega arith) in
    let e : bit (is_set flags 1) ≡ flags / 1 % 2 = bit_is (flags / 1 % 2) (omega arith) in
    let h : flags % 8 ≡ flags / 4 % 2 * 4 + flags % 4 = mod-mul flags (zero-lt-suc 1) (zero-lt-suc 3) in
    let l : flags % 4 ≡ flags / 2 % 2 * 2 + flags % 2 = mod-mul flags (zero-lt-suc 1) (zero-lt-suc 1) in
    let o : flags / 1 ≡ flags = div-one flags in
    rw (pick_bit, pick_bit, pick_bit, u, b, e, o) (omega (arith, h, l))

pub id_of : (t : Bool) (id : StreamId) → key_id (key_of t id) ≡ id
id_of true id = refl
id_of false id = refl

pub unordered_of : (t : Bool) (id : StreamId) → key_unordered (key_of t id) ≡ t
unordered_of true id = refl
unordered_of false id = refl

pub key_whole : (key : StreamKey) → key_of (key_unordered key) (key_id key) ≡ key
key_whole (Ordered id) = refl
key_whole (Unordered id) = refl
