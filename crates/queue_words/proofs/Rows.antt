-- Laws of rows: what is read of a list of words after a row, or one word, was put into it. Every table's laws follow from these. Assumes nothing.
use mathlib.Core.Path.{◌≡◌, refl, ap, ◌∙◌}
use mathlib.Core.Logic.{◌⊎◌, inl, inr, ⊎_elim}
use mathlib.Core.List.{List, [], ◌∷◌}
use Prim.Native.Nat.{ℕ, zero, suc, ◌+◌, ◌*◌, ◌≤◌, ◌<◌}
use native.Mathlib.Omega.{arith, ne_cases}
use native.Mathlib.Nat.{mul-le-mul_right, suc-mul}
use lib.ListN.{length, get_or, set, length-set}
use lib.Seq.{get_or-set_same, get_or-set_other}
use Rattle.queue_words.specs.Rows.{row_from, put_from, row, put_row}

length_put_from : (vs ws : List ℕ) (at k : ℕ) → length (put_from ws at k vs) ≡ length ws
length_put_from [] ws at k = refl
length_put_from (v ∷ vs) ws at k = length_put_from vs (set ws (at + k) v) at (suc k) ∙ length-set ws (at + k) v

-- index j is not among the n from a on
abbrev Out : ℕ → ℕ → ℕ → Type 0
Out j a n = (j < a) ⊎ (a + n ≤ j)

pub out_get_d : (vs ws : List ℕ) (at k j : ℕ) → Out j (at + k) (length vs) → get_or (put_from ws at k vs) j 0 ≡ get_or ws j 0
out_get_d [] ws at k j o = refl
out_get_d (v ∷ vs) ws at k j o =
    out_get_d vs (set ws (at + k) v) at (suc k) j (⊎_elim (λ l. inl (omega arith)) (λ l. inr (omega arith)) o)
    ∙ get_or-set_other ws (at + k) j v 0 (λ e. ⊎_elim (λ l. omega arith) (λ l. omega arith) o)

same_from : (vs ws : List ℕ) (at k : ℕ) → at + k + length vs ≤ length ws → row_from (put_from ws at k vs) at k (length vs) ≡ vs
same_from [] ws at k h = refl
same_from (v ∷ vs) ws at k h =
    let ws' : List ℕ = set ws (at + k) v in
    let e : get_or (put_from ws' at (suc k) vs) (at + k) 0 ≡ v =
    out_get_d vs ws' at (suc k) (at + k) (inl (omega arith)) ∙ get_or-set_same ws (at + k) v 0 (omega arith) in
    let r : row_from (put_from ws' at (suc k) vs) at (suc k) (length vs) ≡ vs =
    same_from vs ws' at (suc k) (omega (arith, length-set ws (at + k) v)) in
    cc

-- the n words from a on and the m words from b on have none in common
abbrev pub Apart : ℕ → ℕ → ℕ → ℕ → Type 0
Apart a n b m = (a + n ≤ b) ⊎ (b + m ≤ a)

other_from : (n k : ℕ) (vs ws : List ℕ) (at b m : ℕ) → k + n ≤ m → Apart at (length vs) b m → row_from (put_row ws at vs) b k n ≡ row_from ws b k n
other_from zero k vs ws at b m h o = refl
other_from (suc n) k vs ws at b m h o =
    let e : get_or (put_row ws at vs) (b + k) 0 ≡ get_or ws (b + k) 0 =
    out_get_d vs ws at 0 (b + k) (⊎_elim (λ l. inr (omega arith)) (λ l. inl (omega arith)) o) in
    let r : row_from (put_row ws at vs) b (suc k) n ≡ row_from ws b (suc k) n = other_from n (suc k) vs ws at b m (omega arith) o in
    cc

-- the laws
pub row_put_length : (ws : List ℕ) (at : ℕ) (vs : List ℕ) → length (put_row ws at vs) ≡ length ws
row_put_length ws at vs = length_put_from vs ws at 0

pub row_put_same : (ws : List ℕ) (at : ℕ) (vs : List ℕ) → at + length vs ≤ length ws → row (put_row ws at vs) at (length vs) ≡ vs
row_put_same ws at vs h = same_from vs ws at 0 (omega arith)

pub row_put_other : (ws : List ℕ) (at : ℕ) (vs : List ℕ) (b n : ℕ) → Apart at (length vs) b n → row (put_row ws at vs) b n ≡ row ws b n
row_put_other ws at vs b n o = other_from n 0 vs ws at b n (omega arith) o

-- rows of one table: the places base + i * stride and base + j * stride, i and j unlike, with n and m words of at most stride
pub rows_apart : (base stride n m i j : ℕ) → n ≤ stride → m ≤ stride → (i ≡ j → ⊥) → Apart (base + i * stride) n (base + j * stride) m
rows_apart base stride n m i j hn hm ne = ne_cases i j _ ne
    (λ lt. let k : suc i * stride ≤ j * stride = mul-le-mul_right stride lt in inl (omega (arith, suc-mul i stride)))
    (λ lt. let k : suc j * stride ≤ i * stride = mul-le-mul_right stride lt in inr (omega (arith, suc-mul j stride)))

-- one word of what is read
read_from : (n k d : ℕ) (ws : List ℕ) (at : ℕ) → d < n → get_or (row_from ws at k n) d 0 ≡ get_or ws (at + k + d) 0
read_from zero k d ws at h = absurd (omega arith)
read_from (suc n) k zero ws at h =
    let z : at + k ≡ at + k + 0 = omega arith in
    ap (λ i. get_or ws i 0) z
read_from (suc n) k (suc d) ws at h =
    let z : at + suc k + d ≡ at + k + suc d = omega arith in
    read_from n (suc k) d ws at (omega arith) ∙ ap (λ i. get_or ws i 0) z

pub row_word : (ws : List ℕ) (at n k : ℕ) → k < n → get_or (row ws at n) k 0 ≡ get_or ws (at + k) 0
row_word ws at n k h =
    let z : at + 0 + k ≡ at + k = omega arith in
    read_from n 0 k ws at h ∙ ap (λ i. get_or ws i 0) z

-- one word of a row
before_from : (n j : ℕ) (ws : List ℕ) (at p v : ℕ) → p < at + j → row_from (set ws p v) at j n ≡ row_from ws at j n
before_from zero j ws at p v h = refl
before_from (suc n) j ws at p v h =
    let e : get_or (set ws p v) (at + j) 0 ≡ get_or ws (at + j) 0 = get_or-set_other ws p (at + j) v 0 (λ z. omega arith) in
    let r : row_from (set ws p v) at (suc j) n ≡ row_from ws at (suc j) n = before_from n (suc j) ws at p v (omega arith) in
    cc

word_from : (n j d : ℕ) (ws : List ℕ) (at p v : ℕ) → p ≡ at + j + d → p < length ws → d < n → row_from (set ws p v) at j n ≡ set (row_from ws at j n) d v
word_from zero j d ws at p v ep h k = absurd (omega arith)
word_from (suc n) j zero ws at p v ep h k =
    let z : at + j ≡ p = omega arith in
    let e : get_or (set ws p v) (at + j) 0 ≡ v = rw z (get_or-set_same ws p v 0 h) in
    let r : row_from (set ws p v) at (suc j) n ≡ row_from ws at (suc j) n = before_from n (suc j) ws at p v (omega arith) in
    cc
word_from (suc n) j (suc d) ws at p v ep h k =
    let e : get_or (set ws p v) (at + j) 0 ≡ get_or ws (at + j) 0 = get_or-set_other ws p (at + j) v 0 (λ z. omega arith) in
    let r : row_from (set ws p v) at (suc j) n ≡ set (row_from ws at (suc j) n) d v = word_from n (suc j) d ws at p v (omega arith) h (omega arith) in
    cc

-- a store to word k of a row is a store to place k of what is read of it
pub row_set_word : (ws : List ℕ) (at n k v : ℕ) → at + k < length ws → k < n → row (set ws (at + k) v) at n ≡ set (row ws at n) k v
row_set_word ws at n k v h l = word_from n 0 k ws at (at + k) v (omega arith) h l

pub row_word_other : (ws : List ℕ) (p v b n : ℕ) → Apart p 1 b n → row (set ws p v) b n ≡ row ws b n
row_word_other ws p v b n o =
    let z : p + 0 ≡ p = omega arith in
    rw z at (row_put_other ws p (v ∷ []) b n o)
