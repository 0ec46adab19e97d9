-- The turns of the loops that make a payload and that sum bytes, over plain values. Assumes nothing.
use mathlib.Core.Path.{◌≡◌, sym, ◌∙◌}
use mathlib.Core.List.{List, ◌++◌, append_assoc, append-nil}
use Prim.Native.Nat.{ℕ, suc, ◌+◌, ◌-◌, ◌≤◌, ◌<◌}
use native.Mathlib.Numerals.{add-one}
use native.Mathlib.Omega.{arith}
use lib.ListN.{length, take, drop, set, get_or}
use lib.Seq.{take-suc-set, take_all, drop-cons, drop-length}
use Rattle.trace_text.specs.Payload.{next_of, byte_of, bytes_from, sum_with, sum_from}

pub fill_next : (l w : List ℕ) (x y b i n : ℕ) → i < length l → length l ≡ n → y ≡ next_of x → b ≡ byte_of y → take i l ++ bytes_from x (n - i) ≡ w → take (i + 1) (set l i b) ++ bytes_from y (n - (i + 1)) ≡ w
unfolding bytes_from
fill_next l w x y b i n h e ey eb known =
    let s : n - i ≡ suc (n - (i + 1)) = omega arith in
    rw (add-one i, take-suc-set l i b h, append_assoc, eb, ey) (rw (s, add-one i) at known)

pub fill_end : (l w : List ℕ) (x i n : ℕ) → length l ≤ i → length l ≡ n → take i l ++ bytes_from x (n - i) ≡ w → l ≡ w
unfolding bytes_from
fill_end l w x i n h e known =
    let z : n - i ≡ 0 = omega arith in
    sym (append-nil l) ∙ (rw (z, take_all i l h) at known)

pub sum_next : (l : List ℕ) (s r i w : ℕ) → i < length l → r ≡ sum_with s (get_or l i 0) → sum_from s (drop i l) ≡ w → sum_from r (drop (i + 1) l) ≡ w
unfolding sum_from
sum_next l s r i w h er known = rw (er, add-one i) (rw (drop-cons l i 0 h) at known)

pub sum_end : (l : List ℕ) (s i w : ℕ) → length l ≤ i → i ≤ length l → sum_from s (drop i l) ≡ w → s ≡ w
unfolding sum_from
sum_end l s i w h k known =
    let e : i ≡ length l = omega arith in
    rw (e, drop-length l) at known
