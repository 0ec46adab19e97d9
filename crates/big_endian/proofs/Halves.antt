-- A number is its high part and its low part; what stands after two writes; what std's conversions read and write. Assumes nothing.
use mathlib.Core.Path.{◌≡◌, refl, sym, ap, ◌∙◌}
use mathlib.Core.List.{List, [], ◌∷◌, ◌++◌, append_assoc}
use Prim.Native.Nat.{ℕ, zero, suc, ◌+◌, ◌-◌, ◌*◌, ◌/◌, ◌%◌, ◌^◌, ◌≤◌, ◌<◌}
use native.Mathlib.Nat.{pow-zero, mul-one, pow-succ', div-one, mod-eq_of_lt, mul_assoc, add-mul, add_assoc}
use native.Mathlib.Omega.{arith}
use lib.Pow.{pow-add}
use lib.ListN.{length, take, drop, get_or, set, length-append, length-drop}
use lib.Seq.{take_all, length-take-le, drop-drop, take-add, take_at, drop-cons, set_split, drop-append-add}
use Rattle.std.specs.Prelude.{slice_index}
use Rattle.std.specs.Int.{byte_at, byte_worth, sum_through, bytes_high_first}
use Rattle.queue_model.specs.Bytes.{number_bytes, bytes_number}
use Rattle.big_endian.specs.Numbers.{number_at, wrote}

-- ------------------------------------------------------------------ reading

-- a byte
pub byte_is : (bs : List ℕ) (at : ℕ) → at + 1 ≤ length bs → get_or bs at 0 ≡ number_at bs at 1
unfolding number_at bytes_number
byte_is bs at h = rw (drop-cons bs at 0 (omega arith)) (omega arith)

number_cons : (x p q r n m l : ℕ) → p ≡ q * r → n ≡ m * r + l → x * p + n ≡ (x * q + m) * r + l
number_cons x p q r n m l e f = rw (e, f, add-mul, mul_assoc, add_assoc)

-- two lists of bytes as one number
pub number_append : (xs ys : List ℕ) → bytes_number (xs ++ ys) ≡ bytes_number xs * 256 ^ length ys + bytes_number ys
unfolding bytes_number
number_append [] ys = omega arith
number_append (x ∷ xs) ys =
    let p : 256 ^ length (xs ++ ys) ≡ 256 ^ length xs * 256 ^ length ys = ap (λ (n : ℕ). 256 ^ n) (length-append xs ys) ∙ pow-add 256 (length xs) (length ys) in
    number_cons x (256 ^ length (xs ++ ys)) (256 ^ length xs) (256 ^ length ys) (bytes_number (xs ++ ys)) (bytes_number xs) (bytes_number ys) p (number_append xs ys)

-- a number is its high part and its low part
pub number_halves : (bs : List ℕ) (at v w : ℕ) → at + (v + w) ≤ length bs → number_at bs at (v + w) ≡ number_at bs at v * 256 ^ w + number_at bs (at + v) w
unfolding number_at
number_halves bs at v w h =
    let k : length (take w (drop (at + v) bs)) ≡ w = length-take-le w (drop (at + v) bs) (rw length-drop (omega arith)) in
    rw (take-add v w (drop at bs), drop-drop, number_append, k)

-- ------------------------------------------------------------------ writing

pub wrote_length : (b : List ℕ) (at : ℕ) (xs : List ℕ) → at + length xs ≤ length b → length (wrote b at xs) ≡ length b
unfolding wrote
wrote_length b at xs h =
    let k : length (take at b) ≡ at = length-take-le at b (omega arith) in
    rw (length-append, length-append, k, length-drop) (omega arith)

-- one write behind another is one write
pub wrote_twice : (b : List ℕ) (at : ℕ) (xs ys : List ℕ) → at + length xs + length ys ≤ length b → wrote (wrote b at xs) (at + length xs) ys ≡ wrote b at (xs ++ ys)
unfolding wrote
wrote_twice b at xs ys h =
    let ka : length (take at b) ≡ at = length-take-le at b (omega arith) in
    let kh : length (take at b ++ xs) ≡ at + length xs = rw (length-append, ka) in
    let e : take at b ++ (xs ++ drop (at + length xs) b) ≡ (take at b ++ xs) ++ drop (at + length xs) b = sym (append_assoc (take at b) xs (drop (at + length xs) b)) in
    let f : drop (at + length xs + length ys) ((take at b ++ xs) ++ drop (at + length xs) b) ≡ drop (at + (length xs + length ys)) b =
    ap (λ (n : ℕ). drop (n + length ys) ((take at b ++ xs) ++ drop (at + length xs) b)) (sym kh)
    ∙ drop-append-add (take at b ++ xs) (drop (at + length xs) b) (length ys)
    ∙ drop-drop (length ys) (at + length xs) b
    ∙ ap (λ (n : ℕ). drop n b) (add_assoc at (length xs) (length ys)) in
    rw (e, take_at (take at b ++ xs) (drop (at + length xs) b) (at + length xs) kh, f, append_assoc, append_assoc, length-append)

-- a byte
pub byte_wrote : (b : List ℕ) (at n : ℕ) → at + 1 ≤ length b → n < 256 → set b at n ≡ wrote b at (number_bytes 1 n)
unfolding wrote number_bytes
byte_wrote b at n h k =
    let e : n / 1 % 256 ≡ n = rw (div-one, mod-eq_of_lt k) in
    let f : suc at ≡ at + 1 = omega arith in
    rw (set_split b at n (omega arith), e, f)

-- ------------------------------------------------------------------ std's conversions

byte_at_is : (w n : ℕ) → byte_at w n ≡ n / 256 ^ w % 256
byte_at_is zero n = rw (pow-zero, div-one)
byte_at_is (suc w) n = refl

-- the bytes that std writes, high byte first
high_first : (w n : ℕ) → bytes_high_first w n ≡ number_bytes w n
unfolding number_bytes
high_first zero n = refl
high_first (suc w) n = rw (byte_at_is w n, high_first w n)

-- the bytes that std writes from `at` on
pub be_wrote : (b b1 xs : List ℕ) (at w n : ℕ) → xs ≡ bytes_high_first w n → b1 ≡ wrote b at xs → b1 ≡ wrote b at (number_bytes w n)
be_wrote b b1 xs at w n e f = f ∙ ap (λ (l : List ℕ). wrote b at l) (e ∙ high_first w n)

byte_worth_is : (i b : ℕ) → byte_worth i b ≡ b * 256 ^ i
byte_worth_is zero b = rw pow-zero (omega arith)
byte_worth_is (suc i) b = refl

next_worth : (n b p x : ℕ) → x ≡ n * 256 + b → n * (256 * p) + b * p ≡ x * p
next_worth n b p x e = rw (e, add-mul, mul_assoc)

-- the worth of the first k + 1 bytes of w + 1
worth_is : (xs : List ℕ) (w k : ℕ) → k ≤ w → w + 1 ≤ length xs → sum_through (λ i. byte_worth (w - i) (slice_index xs i)) k ≡ number_at xs 0 (k + 1) * 256 ^ (w - k)
worth_is xs w zero h r = rw (byte_worth_is (w - 0) (get_or xs 0 0), byte_is xs 0 (omega arith))
worth_is xs w (suc k) h r =
    let p : w - k ≡ suc (w - suc k) = omega arith in
    let e : number_at xs 0 (suc k + 1) ≡ number_at xs 0 (k + 1) * 256 + number_at xs (suc k) 1 =
    ap (λ (n : ℕ). number_at xs 0 n) (omega arith) ∙ number_halves xs 0 (k + 1) 1 (omega arith) ∙ ap (λ (n : ℕ). number_at xs 0 (k + 1) * 256 + number_at xs n 1) (omega arith) in
    rw (worth_is xs w k (omega arith) r, byte_worth_is (w - suc k) (get_or xs (suc k) 0), byte_is xs (suc k) (omega arith), p, pow-succ' 256 (w - suc k)) (next_worth _ _ _ _ e)

whole_number : (xs ys : List ℕ) (w : ℕ) → xs ≡ ys → length ys ≡ w → number_at xs 0 w ≡ bytes_number ys
unfolding number_at
whole_number xs ys w e h = ap bytes_number (take_all w xs (omega (arith, h, ap length e)) ∙ e)

-- the number that std reads from the bytes from `at` on
pub be_read : (bs xs : List ℕ) (at w n : ℕ) → at + (w + 1) ≤ length bs → xs ≡ take (w + 1) (drop at bs) → n ≡ sum_through (λ i. byte_worth (w - i) (slice_index xs i)) w → n ≡ number_at bs at (w + 1)
unfolding number_at
be_read bs xs at w n h e f =
    let k : length (take (w + 1) (drop at bs)) ≡ w + 1 = length-take-le (w + 1) (drop at bs) (rw length-drop (omega arith)) in
    let q : w - w ≡ 0 = omega arith in
    f ∙ worth_is xs w w (omega arith) (omega (arith, k, ap length e)) ∙ rw (q, pow-zero, mul-one, whole_number xs _ (w + 1) e k)
