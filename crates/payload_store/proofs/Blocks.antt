-- A copy by blocks: what a copy through a block leaves, and that one more block extends what is copied. Assumes nothing.
use mathlib.Core.Path.{◌≡◌, sym, ap, ◌∙◌}
use mathlib.Core.List.{List, ◌++◌, append_assoc}
use Prim.Native.Nat.{ℕ, ◌+◌, ◌-◌, ◌≤◌}
use native.Mathlib.Omega.{arith}
use lib.ListN.{length, take, drop, length-drop}
use lib.Seq.{length-take-le, take-length, take_at, drop_at, take-add, drop-drop}
use Rattle.payload_store.specs.Putting.{written}
use Rattle.payload_store.proofs.Parts.{part_in, copy_all}

part_length : (src : List ℕ) (at n : ℕ) → at + n ≤ length src → length (take n (drop at src)) ≡ n
part_length src at n h = length-take-le n (drop at src) (simp length-drop (omega arith))

-- a part of src, copied to a block's start and from there to the same places of dst
pub block_through : (src dst block block' l : List ℕ) (at n : ℕ) → at + n ≤ length src → at + n ≤ length dst
    → block' ≡ take (length (take (at + n - at) (drop at src))) (take (at + n - at) (drop at src)) ++ drop (length (take (at + n - at) (drop at src))) block
    → l ≡ take (length (take (n - 0) block')) (take (n - 0) block') ++ drop (length (take (n - 0) block')) (take (at + n - at) (drop at dst))
    → take at dst ++ (l ++ drop (at + n - at) (drop at dst)) ≡ written dst at (take n (drop at src))
block_through src dst block block' l at n hs hd eb el =
    let m : at + n - at ≡ n = omega arith in
    let z : n - 0 ≡ n = omega arith in
    let k : length (take n (drop at src)) ≡ n = part_length src at n hs in
    let b : take n block' ≡ take n (drop at src) = ap (take n) (rw (m, take-length) at eb) ∙ take_at _ _ n k in
    part_in dst (take n (drop at src)) l at n (sym k) hd (rw (z, b) at (copy_all (take (n - 0) block') _ _ el))
    ∙ ap (λ x. take at dst ++ (take n (drop at src) ++ drop (at + x) dst)) (sym k)

-- the first i bytes are copied, and then the n next: the first i + n are
pub block_on : (src dst₀ dst dst' : List ℕ) (i n : ℕ) → i + n ≤ length src → dst ≡ take i src ++ drop i dst₀ → dst' ≡ written dst i (take n (drop i src))
    → dst' ≡ take (i + n) src ++ drop (i + n) dst₀
block_on src dst₀ dst dst' i n h e e' =
    let k : length (take i src) ≡ i = length-take-le i src (omega arith) in
    let front : take i dst ≡ take i src = ap (take i) e ∙ take_at (take i src) _ i k in
    let back : drop (i + n) dst ≡ drop (i + n) dst₀ = sym (drop-drop n i dst) ∙ (ap (λ (x : List ℕ). drop n (drop i x)) e ∙ (ap (drop n) (drop_at (take i src) _ i k) ∙ drop-drop n i dst₀)) in
    e' ∙ rw (part_length src i n h, front, back, take-add i n src, append_assoc)

-- the last block, of the bytes that are left: all is copied
pub block_last : (src dst₀ dst dst' : List ℕ) (i : ℕ) → i ≤ length src → dst ≡ take i src ++ drop i dst₀ → dst' ≡ written dst i (take (length src - i) (drop i src))
    → dst' ≡ src ++ drop (length src) dst₀
block_last src dst₀ dst dst' i h e e' =
    let a : i + (length src - i) ≡ length src = omega arith in
    copy_all src dst' dst₀ (rw a at (block_on src dst₀ dst dst' i (length src - i) (omega arith) e e'))
