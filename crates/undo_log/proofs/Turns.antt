-- A row of one list put into another is a part of the one in the place of a part of the other. Assumes nothing.
use mathlib.Core.Path.{◌≡◌, sym, ◌∙◌}
use mathlib.Core.List.{List, [], ◌∷◌, ◌++◌, append_assoc}
use Prim.Native.Nat.{ℕ, zero, suc, ◌+◌, ◌≤◌}
use native.Mathlib.Omega.{arith}
use lib.ListN.{length, get_or, set, take, drop, length-set, take-append-drop}
use lib.Seq.{drop-drop, drop-cons, drop-set-lt, take-suc-set}
use Rattle.queue_words.specs.Rows.{row_from, put_from, row, put_row}

part_from : (n k : ℕ) (to from : List ℕ) (at start : ℕ) → at + k + n ≤ length to → start + k + n ≤ length from
    → put_from to at k (row_from from start k n) ≡ take (at + k) to ++ (take n (drop (start + k) from) ++ drop (at + k + n) to)
part_from zero k to from at start h g =
    let s : at + k + 0 ≡ at + k = omega arith in
    rw s (sym (take-append-drop (at + k) to))
part_from (suc n) k to from at start h g =
    let x : ℕ = get_or from (start + k) 0 in
    let to' : List ℕ = set to (at + k) x in
    let a : at + suc k ≡ suc (at + k) = omega arith in
    let b : start + suc k ≡ suc (start + k) = omega arith in
    let d : at + k + suc n ≡ suc (at + k) + n = omega arith in
    let e : put_from to' at (suc k) (row_from from start (suc k) n) ≡ take (at + suc k) to' ++ (take n (drop (start + suc k) from) ++ drop (at + suc k + n) to') =
    part_from n (suc k) to' from at start (omega (arith, length-set to (at + k) x)) (omega arith) in
    e ∙ rw (a, b, d, take-suc-set to (at + k) x (omega arith), drop-set-lt (suc (at + k) + n) to (at + k) x (omega arith), drop-cons from (start + k) 0 (omega arith)) (append_assoc (take (at + k) to) (x ∷ []) (take n (drop (suc (start + k)) from) ++ drop (suc (at + k) + n) to))

pub part_put : (to from : List ℕ) (at start n : ℕ) → at + n ≤ length to → start + n ≤ length from → take at to ++ (take n (drop start from) ++ drop n (drop at to)) ≡ put_row to at (row from start n)
part_put to from at start n h g =
    let a : at + 0 ≡ at = omega arith in
    let b : start + 0 ≡ start = omega arith in
    let e : put_row to at (row from start n) ≡ take (at + 0) to ++ (take n (drop (start + 0) from) ++ drop (at + 0 + n) to) = part_from n 0 to from at start (omega arith) (omega arith) in
    sym (e ∙ rw (a, b, drop-drop n at to))
