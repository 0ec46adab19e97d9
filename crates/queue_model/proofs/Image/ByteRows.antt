-- Numbers and rows of numbers as bytes: reading inverts writing, and writing inverts reading, at every width. Assumes nothing.
use mathlib.Core.Path.{◌≡◌, refl, sym, ap, ◌∙◌, subst}
use mathlib.Core.Bool.{Bool, true, false, ◌&&◌}
use mathlib.Core.List.{List, [], ◌∷◌, ◌++◌, append_assoc}
use Prim.Native.Nat.{ℕ, zero, suc, ◌+◌, ◌*◌, ◌/◌, ◌%◌, ◌^◌, ◌≤◌, ◌<◌}
use native.Mathlib.Nat.{pow-succ', one-le-pow, zero-lt-suc, mod-eq_of_lt, mul_assoc, add_comm, add-mul-div_right, add-mul-mod_self_right, pow-zero}
use native.Mathlib.Omega.{arith}
use lib.Arith.{digits_lt, digits_div, mod-mul}
use lib.Dec.{T, ltb, ltb→lt}
use lib.Pow.{are_bytes}
use lib.ListN.{length, take, drop, length-append, length-drop}
use lib.Seq.{take_at, drop_at, take-add, length-take-le}
use Rattle.queue_model.specs.Bytes.{number_bytes, bytes_number, row_bytes, bytes_row, width, Fits}

pub and_l : (x y : Bool) → T (x && y) → T x
and_l true y h = tt
and_l false y h = h

pub and_r : (x y : Bool) → T (x && y) → T y
and_r true y h = h
and_r false y h = absurd h

pub and_intro : (x y : Bool) → T x → T y → T (x && y)
and_intro true y h k = k
and_intro false y h k = h

pub pow_pos : (w : ℕ) → zero < 256 ^ w
pow_pos w = one-le-pow w 256 (zero-lt-suc 255)

pub length_number_bytes : (w n : ℕ) → length (number_bytes w n) ≡ w
unfolding number_bytes
length_number_bytes zero n = refl
length_number_bytes (suc w) n = ap suc (length_number_bytes w n)

-- Reading what was written gives the number modulo the width.
pub read_written : (w n : ℕ) → bytes_number (number_bytes w n) ≡ n % 256 ^ w
unfolding number_bytes bytes_number
read_written zero n = rw pow-zero (omega arith)
read_written (suc w) n =
    ap (λ (x : ℕ). (n / 256 ^ w % 256) * 256 ^ x + bytes_number (number_bytes w n)) (length_number_bytes w n)
    ∙ ap (λ (x : ℕ). (n / 256 ^ w % 256) * 256 ^ w + x) (read_written w n)
    ∙ sym (mod-mul n (zero-lt-suc 255) (pow_pos w))
    ∙ ap (λ (x : ℕ). n % x) (sym (pow-succ' 256 w))

-- The digits above the width do not show.
high_product : (w k : ℕ) → k * 256 ^ suc w ≡ k * 256 * 256 ^ w
high_product w k = ap (λ (x : ℕ). k * x) (pow-succ' 256 w) ∙ sym (mul_assoc k 256 (256 ^ w))

number_bytes_high : (w k n : ℕ) → number_bytes w (k * 256 ^ w + n) ≡ number_bytes w n
unfolding number_bytes
number_bytes_high zero k n = refl
number_bytes_high (suc w) k n =
    ap (λ (x : ℕ). (x + n) / 256 ^ w % 256 ∷ number_bytes w (x + n)) (high_product w k)
    ∙ ap (λ (l : List ℕ). (k * 256 * 256 ^ w + n) / 256 ^ w % 256 ∷ l) (number_bytes_high w (k * 256) n)
    ∙ ap (λ (x : ℕ). x / 256 ^ w % 256 ∷ number_bytes w n) (add_comm (k * 256 * 256 ^ w) n)
    ∙ ap (λ (x : ℕ). x % 256 ∷ number_bytes w n) (add-mul-div_right n (k * 256) (pow_pos w))
    ∙ ap (λ (x : ℕ). x ∷ number_bytes w n) (add-mul-mod_self_right (n / 256 ^ w) k 256)

-- Bytes stand for a number below their width.
pub bytes_number_lt : (bs : List ℕ) → T (are_bytes bs) → bytes_number bs < 256 ^ length bs
unfolding bytes_number
bytes_number_lt [] h = rw pow-zero (omega arith)
bytes_number_lt (b ∷ bs) h =
    rw (pow-succ' 256 (length bs)) (digits_lt (ltb→lt b 256 (and_l (ltb b 256) (are_bytes bs) h)) (bytes_number_lt bs (and_r (ltb b 256) (are_bytes bs) h)))

-- Writing what was read gives the bytes.
pub written_read : (bs : List ℕ) → T (are_bytes bs) → number_bytes (length bs) (bytes_number bs) ≡ bs
unfolding number_bytes bytes_number
written_read [] h = refl
written_read (b ∷ bs) h =
    let small : b < 256 = ltb→lt b 256 (and_l (ltb b 256) (are_bytes bs) h) in
    let rest : T (are_bytes bs) = and_r (ltb b 256) (are_bytes bs) h in
    ap (λ (x : ℕ). x % 256 ∷ number_bytes (length bs) (b * 256 ^ length bs + bytes_number bs)) (digits_div b (bytes_number_lt bs rest))
    ∙ ap (λ (x : ℕ). x ∷ number_bytes (length bs) (b * 256 ^ length bs + bytes_number bs)) (mod-eq_of_lt small)
    ∙ ap (λ (l : List ℕ). b ∷ l) (number_bytes_high (length bs) b (bytes_number bs) ∙ written_read bs rest)

-- A part of bytes is bytes.
pub take_bytes : (n : ℕ) (bs : List ℕ) → T (are_bytes bs) → T (are_bytes (take n bs))
take_bytes zero bs h = tt
take_bytes (suc n) [] h = tt
take_bytes (suc n) (b ∷ bs) h = and_intro (ltb b 256) (are_bytes (take n bs)) (and_l (ltb b 256) (are_bytes bs) h) (take_bytes n bs (and_r (ltb b 256) (are_bytes bs) h))

pub drop_bytes : (n : ℕ) (bs : List ℕ) → T (are_bytes bs) → T (are_bytes (drop n bs))
drop_bytes zero bs h = h
drop_bytes (suc n) [] h = tt
drop_bytes (suc n) (b ∷ bs) h = drop_bytes n bs (and_r (ltb b 256) (are_bytes bs) h)

-- Reading a written row gives its numbers, whatever follows.
pub row_read_written : (ws ns rest : List ℕ) → Fits ws ns → bytes_row ws (row_bytes ws ns ++ rest) ≡ ns
unfolding row_bytes bytes_row
row_read_written [] [] rest h = refl
row_read_written [] (n ∷ ns) rest h = absurd h
row_read_written (w ∷ ws) [] rest h = absurd h
row_read_written (w ∷ ws) (n ∷ ns) rest h =
    let nb : List ℕ = number_bytes w n in
    let more : List ℕ = row_bytes ws ns ++ rest in
    ap (λ (l : List ℕ). bytes_number (take w l) ∷ bytes_row ws (drop w l)) (append_assoc (number_bytes w n) (row_bytes ws ns) rest)
    ∙ ap (λ (l : List ℕ). bytes_number l ∷ bytes_row ws (drop w (nb ++ more))) (take_at nb more w (length_number_bytes w n))
    ∙ ap (λ (x : ℕ). x ∷ bytes_row ws (drop w (nb ++ more))) (read_written w n ∙ mod-eq_of_lt h.0)
    ∙ ap (λ (l : List ℕ). n ∷ bytes_row ws l) (drop_at nb more w (length_number_bytes w n))
    ∙ ap (λ (l : List ℕ). n ∷ l) (row_read_written ws ns rest h.1)

pub length_row_bytes : (ws ns : List ℕ) → Fits ws ns → length (row_bytes ws ns) ≡ width ws
unfolding row_bytes width
length_row_bytes [] [] h = refl
length_row_bytes [] (n ∷ ns) h = absurd h
length_row_bytes (w ∷ ws) [] h = absurd h
length_row_bytes (w ∷ ws) (n ∷ ns) h = simp (length-append, length_number_bytes, length_row_bytes ws ns h.1)

-- Writing a read row gives the bytes read.
pub row_written_read : (ws bs : List ℕ) → T (are_bytes bs) → width ws ≤ length bs → row_bytes ws (bytes_row ws bs) ≡ take (width ws) bs
unfolding row_bytes bytes_row width
row_written_read [] bs h k = refl
row_written_read (w ∷ ws) bs h k =
    let e : length (take w bs) ≡ w = length-take-le w bs (omega arith) in
    let k' : width ws ≤ length (drop w bs) = rw length-drop (omega arith) in
    ap (λ (l : List ℕ). l ++ row_bytes ws (bytes_row ws (drop w bs))) (subst (λ (m : ℕ). number_bytes m (bytes_number (take w bs)) ≡ take w bs) e (written_read (take w bs) (take_bytes w bs h)))
    ∙ ap (λ (l : List ℕ). take w bs ++ l) (row_written_read ws (drop w bs) (drop_bytes w bs h) k')
    ∙ sym (take-add w (width ws) bs)

-- What is read fits.
pub row_fits : (ws bs : List ℕ) → T (are_bytes bs) → width ws ≤ length bs → Fits ws (bytes_row ws bs)
unfolding bytes_row width
row_fits [] bs h k = tt
row_fits (w ∷ ws) bs h k =
    let e : length (take w bs) ≡ w = length-take-le w bs (omega arith) in
    let k' : width ws ≤ length (drop w bs) = rw length-drop (omega arith) in
    (subst (λ (m : ℕ). bytes_number (take w bs) < 256 ^ m) e (bytes_number_lt (take w bs) (take_bytes w bs h)), row_fits ws (drop w bs) (drop_bytes w bs h) k')
