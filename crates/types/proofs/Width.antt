-- The laws of a counter of w bits, each proved once, for every width. Assumes nothing.
use mathlib.Core.Path.{◌≡◌, refl, sym, ap, ◌∙◌}
use mathlib.Core.Logic.{◌⊎◌, inl, inr}
use Prim.Native.Nat.{ℕ, suc, ◌+◌, ◌-◌, ◌%◌, ◌^◌, ◌≤◌, ◌<◌}
use native.Mathlib.Nat.{mod-lt, mod_self, mod-eq_of_lt, mod-eq-sub-mod}
use native.Mathlib.Numerals.{add-one}
use native.Mathlib.Omega.{arith}
use lib.Pow.{pow_pos, suc_ones}
use Rattle.std.proofs.lemmas.Bool.Decides.{leb_tells}
use Rattle.types.specs.Wrap.{wrapping_add, wrap_suc}

-- A number that takes one of two arms is the sum of a counter: below the end n + m, past it the number that comes round.
pub adds : (w : ℕ) {n m r : ℕ}
    → n < 2 ^ w
    → m < 2 ^ w
    → ((m ≤ 2 ^ w - 1 - n) × (r ≡ n + m)) ⊎ ((2 ^ w - 1 - n < m) × (r ≡ n - (2 ^ w - 1 - m) - 1))
    → r ≡ wrapping_add w n m
unfolding wrapping_add
adds w hn hm (inl (h, e)) = e ∙ sym (mod-eq_of_lt (omega arith))
adds w {n} {m} {r} hn hm (inr (h, e)) =
    let round : r ≡ n + m - 2 ^ w = omega arith in
    round ∙ sym (mod-eq-sub-mod (omega arith) ∙ mod-eq_of_lt (omega arith))

-- The sum modulo the width, which the library's `wrapping_add` gives, takes one of these arms.
arms : (w : ℕ) {n m r : ℕ}
    → n < 2 ^ w
    → m < 2 ^ w
    → r ≡ (n + m) % 2 ^ w
    → ((m ≤ 2 ^ w - 1 - n) × (r ≡ n + m)) ⊎ ((2 ^ w - 1 - n < m) × (r ≡ n - (2 ^ w - 1 - m) - 1))
arms w {n} {m} {r} hn hm e = elim (leb_tells m (2 ^ w - 1 - n)) [
  | inl h ↦ inl (h.1, e ∙ mod-eq_of_lt (omega arith))
  | inr h ↦ (let round : n + m - 2 ^ w ≡ n - (2 ^ w - 1 - m) - 1 = omega arith in
      inr (h.1, e ∙ mod-eq-sub-mod (omega arith) ∙ mod-eq_of_lt (omega arith) ∙ round))
]

-- So by `adds` it is the sum of a counter: this proves the four `add_to`.
pub added : (w n m : ℕ) → n < 2 ^ w → m < 2 ^ w → wrapping_add w n m ≡ (n + m) % 2 ^ w
added w n m hn hm = sym (adds w hn hm (arms w hn hm refl))

-- After the last number comes 0.
pub wrap_last : (w : ℕ) → wrap_suc w (2 ^ w - 1) ≡ 0
wrap_last w = ap (λ (n : ℕ). n % 2 ^ w) (suc_ones w) ∙ mod_self (2 ^ w)

-- Before it a counter grows by one.
pub wrap_below : (w n : ℕ) → suc n < 2 ^ w → wrap_suc w n ≡ suc n
wrap_below w n h = mod-eq_of_lt h

-- To add 1 is to take the next number.
pub wrap_one : (w n : ℕ) → wrapping_add w n 1 ≡ wrap_suc w n
unfolding wrapping_add
wrap_one w n = rw add-one

-- The next number fits the width.
pub wrap_fits : (w n : ℕ) → wrap_suc w n < 2 ^ w
wrap_fits w n = mod-lt (suc n) (pow_pos w)
