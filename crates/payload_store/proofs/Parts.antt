-- What a copy into the middle leaves, and the words then. Assumes nothing.
use mathlib.Core.Path.{◌≡◌, ap, ◌∙◌}
use mathlib.Core.List.{List, ◌++◌, append-nil}
use Prim.Native.Nat.{ℕ, ◌+◌, ◌-◌, ◌≤◌}
use native.Mathlib.Omega.{arith}
use lib.ListN.{length, take, drop, length-drop, drop_of_length-le}
use lib.Seq.{length-take-le, drop-drop, take-length}
use Rattle.queue_words.specs.declared.header.Gaps.{Gaps}
use Rattle.queue_words.specs.declared.header.Totals.{Totals}
use Rattle.queue_words.specs.Header.{totals_at, put_totals}
use Rattle.queue_words.specs.Items.{put_place, put_length}
use Rattle.payload_store.specs.Words.{with_bytes, put_bytes}
use Rattle.payload_store.specs.Gaps.{gaps}
use Rattle.payload_store.specs.Putting.{outcome, placed, written}

pub part_in : (store src l : List ℕ) (at n : ℕ) → n ≡ length src → at + n ≤ length store
    → l ≡ src ++ drop (length src) (take (at + n - at) (drop at store))
    → take at store ++ (l ++ drop (at + n - at) (drop at store)) ≡ take at store ++ (src ++ drop (at + n) store)
part_in store src l at n en h e =
    let m : at + n - at ≡ n = omega arith in
    let k : length (take n (drop at store)) ≤ length src = omega (arith, en, length-take-le n (drop at store) (simp length-drop (omega arith))) in
    rw (e, m, drop_of_length-le (take n (drop at store)) k, append-nil, drop-drop)

pub placed_is : (ws st ws1 ws2 ws3 st1 bs : List ℕ) (g : Gaps) (i : ℕ) (t : Totals) → t ≡ totals_at ws → st1 ≡ written st g.end bs
    → ws1 ≡ put_place ws i g.end → ws2 ≡ put_length ws1 i (length bs) → ws3 ≡ put_bytes ws2 (t.used + length bs) (gaps (g.end + length bs) g.limit g.from g.upto)
    → outcome 0 ws3 st1 ≡ placed ws st g i bs
unfolding placed
placed_is ws st ws1 ws2 ws3 st1 bs g i t et es e1 e2 e3 = rw (e3, e2, e1, es, et)

pub copy_all : (src l d : List ℕ) → l ≡ take (length src) src ++ drop (length src) d → l ≡ src ++ drop (length src) d
copy_all src l d e = e ∙ rw take-length

pub part_out : (store dst l : List ℕ) (at n : ℕ) → at + n ≤ length store
    → l ≡ take (at + n - at) (drop at store) ++ drop (length (take (at + n - at) (drop at store))) dst → l ≡ take n (drop at store) ++ drop n dst
part_out store dst l at n h e =
    let m : at + n - at ≡ n = omega arith in
    let k : length (take n (drop at store)) ≡ n = length-take-le n (drop at store) (simp length-drop (omega arith)) in
    e ∙ rw (m, k)

pub bytes_are : (ws ws1 : List ℕ) (t : Totals) (u : ℕ) (g : Gaps) → t ≡ totals_at ws → ws1 ≡ put_totals ws (with_bytes t u g) → ws1 ≡ put_bytes ws u g
unfolding put_bytes
bytes_are ws ws1 t u g et ew = ew ∙ ap (λ (x : Totals). put_totals ws (with_bytes x u g)) et
