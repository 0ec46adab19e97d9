-- Writing a request, over plain values: a callee's result is a variable, what it ensures a hypothesis. Assumes nothing.
use mathlib.Core.Path.{◌≡◌, refl, sym, ap, ap₂, ◌∙◌}
use mathlib.Core.List.{List, [], ◌∷◌, ◌++◌, append_assoc}
use Prim.Native.Nat.{ℕ, zero, suc, ◌+◌, ◌-◌, ◌*◌, ◌/◌, ◌%◌, ◌≤◌, ◌<◌}
use native.Mathlib.Omega.{arith}
use native.Mathlib.Numerals.{add-one}
use lib.ListN.{length, take, get_or, replicate, length-append, length-replicate}
use lib.Seq.{take-suc, length-take-le}
use Rattle.queue_model.specs.Bytes.{number_bytes, width}
use Rattle.queue_model.proofs.Image.ByteRows.{length_number_bytes}
use Rattle.big_endian.specs.Numbers.{wrote}
use Rattle.big_endian.proofs.Halves.{wrote_twice}
use Rattle.big_endian.proofs.Rows.{row_wrote, row_length, wrote_none}
use Rattle.queue_model.specs.Chunks.{padding}
use Rattle.reset_model.specs.Wire.{parameter_length, chunk_length, request_size, id_bytes, request_widths, request_head, request_bytes}

-- ---- sizes

-- A chunk length is even, so its padding is none or two zeros.
padding_even : (m : ℕ) → (4 - (4 * m + 20) % 4) % 4 ≡ 0
padding_even m = omega arith

padding_odd : (m : ℕ) → (4 - (4 * m + 22) % 4) % 4 ≡ 2
padding_odd m = omega arith

size_even : (n : ℕ) → (n % 2 ≡ 1 → ⊥) → padding (chunk_length n) ≡ 0
unfolding padding
size_even n h = let e : chunk_length n ≡ 4 * (n / 2) + 20 = omega arith in rw e (padding_even (n / 2))

size_odd : (n : ℕ) → n % 2 ≡ 1 → padding (chunk_length n) ≡ 2
unfolding padding
size_odd n h = let e : chunk_length n ≡ 4 * (n / 2) + 22 = omega arith in rw e (padding_odd (n / 2))

-- An odd number, or an even one.
data Parity (n : ℕ) : Type 0 where
  odd : n % 2 ≡ 1 → Parity n
  even : (n % 2 ≡ 1 → ⊥) → Parity n

parity : (n : ℕ) → Parity n
parity n = by (n % 2) refl
  where
    by : (k : ℕ) → n % 2 ≡ k → Parity n
    by zero e = even (λ h. omega (arith, e, h))
    by (suc zero) e = odd e
    by (suc (suc k)) e = absurd (omega (arith, e))

pub size_is : (n : ℕ) → request_size n ≡ 20 + 2 * n + 2 * (n % 2)
size_is n = by (parity n)
  where
    by : Parity n → request_size n ≡ 20 + 2 * n + 2 * (n % 2)
    by (odd h) = let p = size_odd n h in omega arith
    by (even h) = let p = size_even n h in let z : n % 2 ≡ 0 = omega arith in omega arith

pub size_least : (n : ℕ) → chunk_length n ≤ request_size n
size_least n = omega arith

pub odd_room : (n l : ℕ) → n % 2 ≡ 1 → request_size n ≤ l → 20 + 2 * n + 2 ≤ l
odd_room n l h r = let p = size_odd n h in omega arith

-- ---- the ids

ids_long : (ks : List ℕ) → length (id_bytes ks) ≡ 2 * length ks
unfolding id_bytes
ids_long [] = refl
ids_long (k ∷ ks) = let ih = ids_long ks in rw (length-append, length_number_bytes) (omega (arith, ih))

ids_snoc : (ks : List ℕ) (k : ℕ) → id_bytes (ks ++ (k ∷ [])) ≡ id_bytes ks ++ number_bytes 2 k
unfolding id_bytes number_bytes
ids_snoc [] k = refl
ids_snoc (j ∷ ks) k = ap (λ (l : List ℕ). number_bytes 2 j ++ l) (ids_snoc ks k) ∙ sym (append_assoc (number_bytes 2 j) (id_bytes ks) (number_bytes 2 k))

pub ids_start : (b ids : List ℕ) → b ≡ wrote b 20 (id_bytes (take 0 ids))
unfolding id_bytes
ids_start b ids = wrote_none b 20

pub ids_next : (b ids : List ℕ) (i n : ℕ) (b1 b2 : List ℕ) → n ≤ length ids → 20 + 2 * n ≤ length b → i < n → b1 ≡ wrote b 20 (id_bytes (take i ids)) → b2 ≡ wrote b1 (20 + 2 * i) (number_bytes 2 (get_or ids i 0)) → b2 ≡ wrote b 20 (id_bytes (take (i + 1) ids))
ids_next b ids i n b1 b2 l r h e f =
    let li : length (take i ids) ≡ i = length-take-le i ids (omega (arith, l, h)) in
    let lb : length (id_bytes (take i ids)) ≡ 2 * i = ids_long (take i ids) ∙ ap (λ (x : ℕ). 2 * x) li in
    let ln : length (number_bytes 2 (get_or ids i 0)) ≡ 2 = length_number_bytes 2 (get_or ids i 0) in
    let t : wrote (wrote b 20 (id_bytes (take i ids))) (20 + 2 * i) (number_bytes 2 (get_or ids i 0)) ≡ wrote b 20 (id_bytes (take i ids) ++ number_bytes 2 (get_or ids i 0)) =
    rw lb at (wrote_twice b 20 (id_bytes (take i ids)) (number_bytes 2 (get_or ids i 0)) (omega (arith, lb, ln, r, h))) in
    let s : id_bytes (take i ids) ++ number_bytes 2 (get_or ids i 0) ≡ id_bytes (take (i + 1) ids) =
    sym (ids_snoc (take i ids) (get_or ids i 0)) ∙ ap id_bytes (sym (take-suc ids i 0 (omega (arith, l, h))) ∙ ap (λ (x : ℕ). take x ids) (sym (add-one i))) in
    f ∙ ap (λ (x : List ℕ). wrote x (20 + 2 * i) (number_bytes 2 (get_or ids i 0))) e ∙ t ∙ ap (wrote b 20) s

pub ids_end : (b ids : List ℕ) (i n : ℕ) (b1 : List ℕ) → b1 ≡ wrote b 20 (id_bytes (take i ids)) → i ≤ n → n ≤ i → b1 ≡ wrote b 20 (id_bytes (take n ids))
ids_end b ids i n b1 e g h = let z : i ≡ n = omega arith in e ∙ ap (λ (x : ℕ). wrote b 20 (id_bytes (take x ids))) z

-- ---- the head

head_width : width request_widths ≡ 20
unfolding width
head_width = refl

pub head_long : (n number response tsn : ℕ) → length (request_head n number response tsn) ≡ 20
unfolding request_head
head_long n number response tsn = row_length request_widths (130 ∷ 0 ∷ chunk_length n ∷ 13 ∷ parameter_length n ∷ number ∷ response ∷ tsn ∷ []) refl ∙ head_width

abbrev put : List ℕ → ℕ → ℕ → ℕ → List ℕ
put b at w n = wrote b at (number_bytes w n)

pub head_wrote : (b : List ℕ) (n number response tsn : ℕ) → 20 ≤ length b
    → put (put (put (put (put (put (put (put b 0 1 130) 1 1 0) 2 2 (chunk_length n)) 4 2 13) 6 2 (parameter_length n)) 8 4 number) 12 4 response) 16 4 tsn ≡ wrote b 0 (request_head n number response tsn)
unfolding request_head
head_wrote b n number response tsn h = row_wrote b 0 20 request_widths (130 ∷ 0 ∷ chunk_length n ∷ 13 ∷ parameter_length n ∷ number ∷ response ∷ tsn ∷ []) head_width refl h

-- ---- the padding

zeros_two : number_bytes 2 0 ≡ replicate 2 0
unfolding number_bytes
zeros_two = refl

pub padding_none : (b : List ℕ) (n : ℕ) → (n % 2 ≡ 1 → ⊥) → b ≡ wrote b (20 + 2 * n) (replicate (padding (chunk_length n)) 0)
padding_none b n h = wrote_none b (20 + 2 * n) ∙ ap (λ (k : ℕ). wrote b (20 + 2 * n) (replicate k 0)) (sym (size_even n h))

pub padding_two : (b b1 : List ℕ) (n : ℕ) → n % 2 ≡ 1 → b1 ≡ wrote b (20 + 2 * n) (number_bytes 2 0) → b1 ≡ wrote b (20 + 2 * n) (replicate (padding (chunk_length n)) 0)
padding_two b b1 n h e = e ∙ ap (wrote b (20 + 2 * n)) (zeros_two ∙ ap (λ (k : ℕ). replicate k 0) (sym (size_odd n h)))

-- ---- the message

abbrev zeros : ℕ → List ℕ
zeros k = replicate k 0

zeros_long : (k : ℕ) → length (zeros k) ≡ k
zeros_long k = length-replicate k 0

pub request_wrote : (b ids : List ℕ) (n number response tsn : ℕ) (b1 b2 b3 : List ℕ) → n ≤ length ids → request_size n ≤ length b
    → b1 ≡ wrote b 0 (request_head n number response tsn) → b2 ≡ wrote b1 20 (id_bytes (take n ids)) → b3 ≡ wrote b2 (20 + 2 * n) (replicate (padding (chunk_length n)) 0)
    → b3 ≡ wrote b 0 (request_bytes number response tsn (take n ids))
unfolding request_bytes
request_wrote b ids n number response tsn b1 b2 b3 l r e1 e2 e3 =
    let ln : length (take n ids) ≡ n = length-take-le n ids l in
    let lh : length (request_head n number response tsn) ≡ 20 = head_long n number response tsn in
    let li : length (id_bytes (take n ids)) ≡ 2 * n = ids_long (take n ids) ∙ ap (λ (x : ℕ). 2 * x) ln in
    let lz : length (zeros (padding (chunk_length n))) ≡ padding (chunk_length n) = zeros_long (padding (chunk_length n)) in
    let g = size_least n in
    let lhi : length (request_head n number response tsn ++ id_bytes (take n ids)) ≡ 20 + 2 * n = rw (length-append, lh, li) in
    let t1 : wrote (wrote b 0 (request_head n number response tsn)) 20 (id_bytes (take n ids)) ≡ wrote b 0 (request_head n number response tsn ++ id_bytes (take n ids)) =
    rw lh at (wrote_twice b 0 (request_head n number response tsn) (id_bytes (take n ids)) (omega (arith, lh, li, r, g))) in
    let z : 0 + (20 + 2 * n) ≡ 20 + 2 * n = omega arith in
    let t2 : wrote (wrote b 0 (request_head n number response tsn ++ id_bytes (take n ids))) (20 + 2 * n) (replicate (padding (chunk_length n)) 0)
    ≡ wrote b 0 ((request_head n number response tsn ++ id_bytes (take n ids)) ++ replicate (padding (chunk_length n)) 0) =
    rw (lhi, z) at (wrote_twice b 0 (request_head n number response tsn ++ id_bytes (take n ids)) (replicate (padding (chunk_length n)) 0) (omega (arith, lhi, lz, r, g))) in
    rw (e3, e2, e1, t1, t2, ln, append_assoc)

-- A request is as long as it says.
pub request_long : (number response tsn : ℕ) (ids : List ℕ) → length (request_bytes number response tsn ids) ≡ request_size (length ids)
unfolding request_bytes
request_long number response tsn ids =
    let k : ℕ = padding (chunk_length (length ids)) in
    length-append (request_head (length ids) number response tsn) (id_bytes ids ++ zeros k)
    ∙ sum_of (length (request_head (length ids) number response tsn)) (length (id_bytes ids ++ zeros k)) (length ids) (head_long (length ids) number response tsn)
    (length-append (id_bytes ids) (zeros k) ∙ ap₂ (λ (x y : ℕ). x + y) (ids_long ids) (zeros_long k))
  where
    sum_of : (x y n : ℕ) → x ≡ 20 → y ≡ 2 * n + padding (chunk_length n) → x + y ≡ request_size n
    sum_of x y n e f = omega (arith, e, f, size_least n)
