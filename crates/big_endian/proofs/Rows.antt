-- Rows of numbers in bytes, number by number. Assumes nothing.
use mathlib.Core.Path.{◌≡◌, refl, sym, ap, ◌∙◌}
use mathlib.Core.List.{List, [], ◌∷◌, ◌++◌, append_assoc}
use Prim.Native.Nat.{ℕ, ◌+◌, ◌≤◌}
use native.Mathlib.Nat.{add-zero, add_assoc}
use native.Mathlib.Omega.{arith}
use lib.ListN.{length, take, drop, length-append, take-append-drop}
use lib.Seq.{drop-drop}
use Rattle.queue_model.specs.Bytes.{number_bytes, bytes_number, row_bytes, bytes_row, width}
use Rattle.queue_model.proofs.Image.ByteRows.{length_number_bytes}
use Rattle.big_endian.specs.Numbers.{number_at, wrote}
use Rattle.big_endian.proofs.Halves.{wrote_length, wrote_twice}

-- ------------------------------------------------------------------ reading

-- the numbers of a row, each read by itself; k: how far the first is behind `at`
abbrev pub numbers_at : List ℕ → ℕ → ℕ → List ℕ → List ℕ
numbers_at bs at k [] = []
numbers_at bs at k (w ∷ ws) = number_at bs (at + k) w ∷ numbers_at bs at (k + w) ws

row_from : (bs : List ℕ) (at k : ℕ) (ws : List ℕ) → bytes_row ws (drop (at + k) bs) ≡ numbers_at bs at k ws
unfolding bytes_row number_at
row_from bs at k [] = refl
row_from bs at k (w ∷ ws) =
    let e : drop w (drop (at + k) bs) ≡ drop (at + (k + w)) bs = drop-drop w (at + k) bs ∙ ap (λ (n : ℕ). drop n bs) (add_assoc at k w) in
    ap (λ (l : List ℕ). bytes_number (take w (drop (at + k) bs)) ∷ l) (ap (λ (l : List ℕ). bytes_row ws l) e ∙ row_from bs at (k + w) ws)

pub row_at_lem : (bs : List ℕ) (at : ℕ) (ws : List ℕ) → bytes_row ws (drop at bs) ≡ numbers_at bs at 0 ws
row_at_lem bs at ws = ap (λ (n : ℕ). bytes_row ws (drop n bs)) (sym (add-zero at)) ∙ row_from bs at 0 ws

-- ------------------------------------------------------------------ writing

-- the numbers of a row written one after the other
abbrev pub wrote_row : List ℕ → ℕ → ℕ → List ℕ → List ℕ → List ℕ
wrote_row b at k [] ns = b
wrote_row b at k (w ∷ ws) [] = b
wrote_row b at k (w ∷ ws) (n ∷ ns) = wrote_row (wrote b (at + k) (number_bytes w n)) at (k + w) ws ns

pub row_length : (ws ns : List ℕ) → length ns ≡ length ws → length (row_bytes ws ns) ≡ width ws
unfolding row_bytes width
row_length [] ns h = refl
row_length (w ∷ ws) [] h = absurd (omega (arith, h))
row_length (w ∷ ws) (n ∷ ns) h = rw (length-append, length_number_bytes, row_length ws ns (omega (arith, h)))

pub wrote_none : (b : List ℕ) (at : ℕ) → b ≡ wrote b at []
unfolding wrote
wrote_none b at = rw (add-zero, take-append-drop)

row_wrote_from : (b : List ℕ) (at k : ℕ) (ws ns : List ℕ) → length ns ≡ length ws → at + k + width ws ≤ length b → wrote_row b at k ws ns ≡ wrote b (at + k) (row_bytes ws ns)
unfolding row_bytes width
row_wrote_from b at k [] ns h r = wrote_none b (at + k)
row_wrote_from b at k (w ∷ ws) [] h r = absurd (omega (arith, h))
row_wrote_from b at k (w ∷ ws) (n ∷ ns) h r =
    let ln : length (number_bytes w n) ≡ w = length_number_bytes w n in
    let lr : length (row_bytes ws ns) ≡ width ws = row_length ws ns (omega (arith, h)) in
    let lb : length (wrote b (at + k) (number_bytes w n)) ≡ length b = wrote_length b (at + k) (number_bytes w n) (omega (arith, ln, r)) in
    let t : wrote (wrote b (at + k) (number_bytes w n)) (at + k + w) (row_bytes ws ns) ≡ wrote b (at + k) (number_bytes w n ++ row_bytes ws ns) =
    rw ln at (wrote_twice b (at + k) (number_bytes w n) (row_bytes ws ns) (omega (arith, ln, lr, r))) in
    row_wrote_from (wrote b (at + k) (number_bytes w n)) at (k + w) ws ns (omega (arith, h)) (omega (arith, lb, r))
    ∙ ap (λ (j : ℕ). wrote (wrote b (at + k) (number_bytes w n)) j (row_bytes ws ns)) (sym (add_assoc at k w))
    ∙ t

-- so written, the row stands from `at` on; k: its width
pub row_wrote : (b : List ℕ) (at k : ℕ) (ws ns : List ℕ) → width ws ≡ k → length ns ≡ length ws → at + k ≤ length b → wrote_row b at 0 ws ns ≡ wrote b at (row_bytes ws ns)
row_wrote b at k ws ns e h r = row_wrote_from b at 0 ws ns h (omega (arith, e, r)) ∙ ap (λ (j : ℕ). wrote b j (row_bytes ws ns)) (add-zero at)

-- a row in two parts
pub row_append : (ws ns vs ms : List ℕ) → length ns ≡ length ws → row_bytes (ws ++ vs) (ns ++ ms) ≡ row_bytes ws ns ++ row_bytes vs ms
unfolding row_bytes
row_append [] [] vs ms h = refl
row_append [] (n ∷ ns) vs ms h = absurd (omega (arith, h))
row_append (w ∷ ws) [] vs ms h = absurd (omega (arith, h))
row_append (w ∷ ws) (n ∷ ns) vs ms h = ap (λ (l : List ℕ). number_bytes w n ++ l) (row_append ws ns vs ms (omega (arith, h))) ∙ sym (append_assoc (number_bytes w n) (row_bytes ws ns) (row_bytes vs ms))

pub rows_wrote : (b b1 b2 : List ℕ) (at k : ℕ) (ws ns vs ms : List ℕ) → length ns ≡ length ws → length ms ≡ length vs → width ws ≡ k → at + (k + width vs) ≤ length b
    → b1 ≡ wrote b at (row_bytes ws ns) → b2 ≡ wrote b1 (at + k) (row_bytes vs ms) → b2 ≡ wrote b at (row_bytes (ws ++ vs) (ns ++ ms))
rows_wrote b b1 b2 at k ws ns vs ms h i e r f g =
    let l : length (row_bytes ws ns) ≡ k = row_length ws ns h ∙ e in
    let lv : length (row_bytes vs ms) ≡ width vs = row_length vs ms i in
    let t : wrote (wrote b at (row_bytes ws ns)) (at + k) (row_bytes vs ms) ≡ wrote b at (row_bytes ws ns ++ row_bytes vs ms) =
    rw l at (wrote_twice b at (row_bytes ws ns) (row_bytes vs ms) (omega (arith, l, lv, r))) in
    rw (g, f, t, row_append ws ns vs ms h)
