-- Searching gaps: what is found lies in the store, the two gaps are apart, and every payload is clear of them. Assumes nothing.
use mathlib.Core.Path.{◌≡◌, refl, sym, ap, ◌∙◌}
use mathlib.Core.Logic.{◌⊎◌, inl, inr, ⊎_elim}
use mathlib.Core.Bool.{Bool, true, false}
use mathlib.Core.List.{List}
use Prim.Native.Nat.{ℕ, zero, suc, ◌+◌, ◌-◌, ◌*◌, ◌/◌, ◌≤◌, ◌<◌, min, max}
use native.Mathlib.Omega.{arith}
use native.Mathlib.Nat.{div-lt_iff_lt-mul, div-mul-le_self}
use native.Mathlib.Numerals.{add-one}
use borrow.Author.Tests.{lt-ltb, le-ltb, le-leb, lt-leb, eq-eqb, ne_eqb, ltb-false, leb-true}
use lib.Dec.{ltb, leb}
use lib.ListN.{length, get_or, set, length-set, length-replicate}
use lib.Seq.{get_or-set_same, get_or-set_other}
use Rattle.queue_words.specs.Flags.{pick}
use Rattle.queue_words.specs.declared.header.Gaps.{Gaps}
use Rattle.payload_store.specs.declared.searching.Run.{Run}
use Rattle.payload_store.specs.Words.{used_of, place_of, size_of}
use Rattle.payload_store.specs.Gaps.{gaps}
use Rattle.payload_store.specs.Searching.{lies, raised, reached, left_to, reach_to, run, free_at, greater, run_on, run_to, within, bytes_of, found}
use Rattle.payload_store.specs.Good.{sum_to, ClearOf, Lay}
use Rattle.payload_store.proofs.Cases.{by_index, false_true}
use Rattle.payload_store.proofs.Clear.{Ordered, lay_with}
use Rattle.queue_words.proofs.Finds.{by_lt}

-- byte x lies in piece x / 8192
pub piece_low : (x : ℕ) → x / 8192 * 8192 ≤ x
piece_low x = div-mul-le_self x 8192

pub piece_high : (x : ℕ) → x < (x / 8192 + 1) * 8192
piece_high x = (div-lt_iff_lt-mul {k = 8192} {x = x} {y = x / 8192 + 1} (omega arith)).0 (omega arith)

-- lying in a store of len bytes
pub lies_yes : (p n len : ℕ) → p + n ≤ len → lies p n len ≡ true
unfolding lies
lies_yes p n len h = rw (le-ltb len n (omega arith), le-leb p (len - n) (omega arith))

pub lies_in : (p n len : ℕ) → lies p n len ≡ true → p + n ≤ len
unfolding lies
lies_in p n len e = go (ltb len n) refl e
  where
    go : (t : Bool) → ltb len n ≡ t → pick t false (leb p (len - n)) ≡ true → p + n ≤ len
    go true et q = false_true q
    go false et q = omega (arith, ltb-false len n et, leb-true p (len - n) q)

-- raising
module _ (rs : List ℕ) (k x : ℕ) where
  pub raised_length : length (raised rs k x) ≡ length rs
  unfolding raised
  raised_length = go (ltb (get_or rs k 0) x)
    where
      go : (t : Bool) → length (pick t (set rs k x) rs) ≡ length rs
      go true = length-set rs k x
      go false = refl

  -- piece k reaches as far as x, and no piece less far than before
  raised_at : k < length rs → x ≤ get_or (raised rs k x) k 0
  unfolding raised
  raised_at h = by_lt (get_or rs k 0) x
      (λ a. rw (lt-ltb (get_or rs k 0) x a) (omega (arith, get_or-set_same rs k x 0 h)))
      (λ a. rw (le-ltb (get_or rs k 0) x a) a)

  raised_up : k < length rs → (j : ℕ) → get_or rs j 0 ≤ get_or (raised rs k x) j 0
  unfolding raised
  raised_up h j = by_lt (get_or rs k 0) x
      (λ a. rw (lt-ltb (get_or rs k 0) x a)
      (by_index k j
      (λ e. omega (arith, ap (λ i. get_or rs i 0) e, ap (λ i. get_or (set rs k x) i 0) e, get_or-set_same rs k x 0 h))
      (λ ne. omega (arith, get_or-set_other rs k j x 0 (λ e. ne (sym e))))))
      (λ a. rw (le-ltb (get_or rs k 0) x a) (omega arith))

-- a payload's first piece is one of the 256
first_in : (p n : ℕ) → p + n ≤ 2097151 → p / 8192 < 256
first_in p n h = omega (arith, piece_low p)

-- the steps of reach_row
pub row_first : (rs : List ℕ) (p n : ℕ) (b : Bool) → b ≡ lies p n (2097152 - 1) → b ≡ true → length rs ≡ 256 → p / 8192 < length rs
row_first rs p n b eb e l = omega (arith, first_in p n (lies_in p n 2097151 (sym eb ∙ e)))

pub row_sum : (p n : ℕ) (b : Bool) → b ≡ lies p n (2097152 - 1) → b ≡ true → p + n ≤ 2097151
row_sum p n b eb e = lies_in p n 2097151 (sym eb ∙ e)

-- the rows
module _ (ws : List ℕ) where
  pub reached_length : (rs : List ℕ) (i n : ℕ) → length (reached ws rs i n) ≡ length rs
  unfolding reached
  reached_length rs i n = by_index n 0
      (λ e. rw (eq-eqb n 0 e))
      (λ ne. rw (ne_eqb n 0 ne) (go (lies (place_of ws i) n 2097151)))
    where
      go : (t : Bool) → length (pick t (raised rs (place_of ws i / 8192) ((place_of ws i + n) / 8192 + 1)) rs) ≡ length rs
      go true = raised_length rs (place_of ws i / 8192) ((place_of ws i + n) / 8192 + 1)
      go false = refl

  -- how far row i's payload reaches is kept
  abbrev Reaches : List ℕ → ℕ → Type 0
  Reaches rs i = (place_of ws i + size_of ws i) / 8192 + 1 ≤ get_or rs (place_of ws i / 8192) 0

  reaches_own : (rs : List ℕ) (i : ℕ) → length rs ≡ 256 → 1 ≤ size_of ws i → place_of ws i + size_of ws i ≤ 2097151 → Reaches (reached ws rs i (size_of ws i)) i
  unfolding reached
  reaches_own rs i l s h =
      rw (ne_eqb (size_of ws i) 0 (λ e. omega arith), lies_yes (place_of ws i) (size_of ws i) 2097151 h)
      (raised_at rs (place_of ws i / 8192) ((place_of ws i + size_of ws i) / 8192 + 1) (omega (arith, first_in (place_of ws i) (size_of ws i) h)))

  reached_up : (rs : List ℕ) (i j : ℕ) → length rs ≡ 256 → get_or rs j 0 ≤ get_or (reached ws rs i (size_of ws i)) j 0
  unfolding reached
  reached_up rs i j l = by_index (size_of ws i) 0
      (λ e. rw (eq-eqb (size_of ws i) 0 e) (omega arith))
      (λ ne. rw (ne_eqb (size_of ws i) 0 ne) (go (lies (place_of ws i) (size_of ws i) 2097151) refl))
    where
      go : (t : Bool) → lies (place_of ws i) (size_of ws i) 2097151 ≡ t
          → get_or rs j 0 ≤ get_or (pick t (raised rs (place_of ws i / 8192) ((place_of ws i + size_of ws i) / 8192 + 1)) rs) j 0
      go true e = raised_up rs (place_of ws i / 8192) ((place_of ws i + size_of ws i) / 8192 + 1)
          (omega (arith, first_in (place_of ws i) (size_of ws i) (lies_in (place_of ws i) (size_of ws i) 2097151 e))) j
      go false e = omega arith

  module _ (used : ℕ) where
    reach_skips : (n : ℕ) → left_to ws used n ≡ 0 → reach_to ws used (suc n) ≡ reach_to ws used n
    unfolding reach_to
    reach_skips n e = rw (eq-eqb (left_to ws used n) 0 e)

    reach_takes : (n : ℕ) → (left_to ws used n ≡ 0 → ⊥) → reach_to ws used (suc n) ≡ reached ws (reach_to ws used n) n (size_of ws n)
    unfolding reach_to
    reach_takes n ne = rw (ne_eqb (left_to ws used n) 0 ne)

    pub reach_length : (n : ℕ) → length (reach_to ws used n) ≡ 256
    unfolding reach_to
    reach_length zero = length-replicate {A = ℕ} 256 0
    reach_length (suc n) = by_index (left_to ws used n) 0
        (λ e. ap length (reach_skips n e) ∙ reach_length n)
        (λ ne. ap length (reach_takes n ne) ∙ (reached_length (reach_to ws used n) n (size_of ws n) ∙ reach_length n))

    -- the steps of reach_all, and its ways out
    pub all_step : (n left size left' : ℕ) (rs rs' : List ℕ) → rs ≡ reach_to ws used n → left ≡ left_to ws used n → (left ≡ 0 → ⊥) → size ≡ size_of ws n
        → rs' ≡ reached ws rs n size → left' ≡ left - size → (rs' ≡ reach_to ws used (n + 1)) × (left' ≡ left_to ws used (n + 1))
    unfolding left_to
    all_step n left size left' rs rs' er el ne es e e' =
        (rw (add-one, reach_takes n (λ z. ne (el ∙ z))) (e ∙ rw (er, es)), rw (add-one, ← el, ← es) e')

    left_stays : (n k : ℕ) → left_to ws used n ≡ 0 → left_to ws used (k + n) ≡ 0
    unfolding left_to
    left_stays n zero e = let z : 0 + n ≡ n = omega arith in ap (left_to ws used) z ∙ e
    left_stays n (suc k) e =
        let z : suc k + n ≡ suc (k + n) = omega arith in
        let q : left_to ws used (k + n) - size_of ws (k + n) ≡ 0 = omega (arith, left_stays n k e) in
        ap (left_to ws used) z ∙ q

    reach_stays : (n k : ℕ) → left_to ws used n ≡ 0 → reach_to ws used (k + n) ≡ reach_to ws used n
    reach_stays n zero e = let z : 0 + n ≡ n = omega arith in ap (reach_to ws used) z
    reach_stays n (suc k) e =
        let z : suc k + n ≡ suc (k + n) = omega arith in
        ap (reach_to ws used) z ∙ (reach_skips (k + n) (left_stays n k e) ∙ reach_stays n k e)

    pub reach_early : (n : ℕ) (rs : List ℕ) (left : ℕ) → n ≤ 1024 → left ≡ left_to ws used n → left ≡ 0 → rs ≡ reach_to ws used n → rs ≡ reach_to ws used 1024
    reach_early n rs left h el z e =
        let m : 1024 - n + n ≡ 1024 = omega arith in
        e ∙ (sym (reach_stays n (1024 - n) (sym el ∙ z)) ∙ ap (reach_to ws used) m)

    pub reach_done : (n : ℕ) (rs : List ℕ) → n ≡ 1024 → rs ≡ reach_to ws used n → rs ≡ reach_to ws used 1024
    reach_done n rs en e = e ∙ ap (reach_to ws used) en

    -- the bytes left are at least those of the rows to come
    left_is : (n : ℕ) → used ≤ left_to ws used n + sum_to (size_of ws) n
    unfolding left_to sum_to
    left_is zero = omega arith
    left_is (suc n) = omega (arith, left_is n)

  sum_up : (i n : ℕ) → i < n → size_of ws i + sum_to (size_of ws) i ≤ sum_to (size_of ws) n
  unfolding sum_to
  sum_up i zero h = absurd (omega arith)
  sum_up i (suc n) h = by_index i n (λ e. rw e (omega arith)) (λ ne. omega (arith, sum_up i n (omega arith)))

  -- no row with a payload is left out
  reaches_all : (n i : ℕ) → n ≤ 1024 → i < n → 1 ≤ size_of ws i → place_of ws i + size_of ws i ≤ 2097151 → Reaches (reach_to ws (sum_to (size_of ws) 1024) n) i
  reaches_all zero i h l s p = absurd (omega arith)
  reaches_all (suc n) i h l s p =
      let u = sum_to (size_of ws) 1024 in
      by_index n i
      (λ e. let ne : left_to ws u n ≡ 0 → ⊥ = λ z. omega (arith, left_is u n, sum_up n 1024 (omega arith), ap (size_of ws) e) in
      rw (reach_takes u n ne, e) (reaches_own (reach_to ws u i) i (reach_length u i) s p))
      (λ ne. let b = reaches_all n i (omega arith) (omega arith) s p in
      by_index (left_to ws u n) 0
      (λ z. rw (reach_skips u n z) b)
      (λ nz. rw (reach_takes u n nz) (omega (arith, b, reached_up (reach_to ws u n) n (place_of ws i / 8192) (reach_length u n)))))

-- what the runs are, among the first n pieces: no payload that begins below a run's end reaches beyond its start
pub record Runs (rs : List ℕ) (n : ℕ) (r : Run) : Type 0 where
  pub start_far : (k : ℕ) → k < n → get_or rs k 0 ≤ r.start
  pub upto_in : r.upto ≤ n
  pub from_in : r.from ≤ r.upto
  pub some : (r.upto ≡ 0) ⊎ (r.from < r.upto)
  pub free : (k : ℕ) → k < r.upto → get_or rs k 0 ≤ r.from
  pub high_in : r.high ≤ n
  pub low_in : r.low ≤ r.high
  pub other : (r.high ≡ 0) ⊎ (r.low < r.high)
  pub aside : (k : ℕ) → k < r.high → get_or rs k 0 ≤ r.low
  pub beside : (r.high ≤ r.from) ⊎ ((r.upto ≤ r.low) × (r.low < r.high))
  pub ended : ((r.from ≡ r.start) × (r.upto ≡ n)) ⊎ (r.upto ≤ r.start)

-- std's methods
pub max_greater : (a b : ℕ) → max a b ≡ greater a b
unfolding greater
max_greater a b = by_lt a b (λ h. rw (lt-ltb a b h) (omega arith)) (λ h. rw (le-ltb a b h) (omega arith))

pub min_within : (len x : ℕ) → min len x ≡ within len x
unfolding within
min_within len x = by_lt len x (λ h. rw (lt-ltb len x h) (omega arith)) (λ h. rw (le-ltb len x h) (omega arith))

greater_left : (a b : ℕ) → a ≤ greater a b
unfolding greater
greater_left a b = by_lt a b (λ h. rw (lt-ltb a b h) (omega arith)) (λ h. rw (le-ltb a b h) (omega arith))

greater_right : (a b : ℕ) → b ≤ greater a b
unfolding greater
greater_right a b = by_lt a b (λ h. rw (lt-ltb a b h) (omega arith)) (λ h. rw (le-ltb a b h) h)

module _ (rs : List ℕ) (n : ℕ) (r : Run) (g : Runs rs n r) where
  -- a payload begins in piece n
  runs_blocked : (s : ℕ) → r.start ≤ s → get_or rs n 0 ≤ s → n < s → Runs rs (suc n) (run r.from r.upto r.low r.high s)
  runs_blocked s a b c = record {
    start_far = λ k h. by_index k n (λ e. rw e b) (λ ne. omega (arith, g.start_far k (omega arith)));
    upto_in = omega (arith, g.upto_in);
    from_in = g.from_in;
    some = g.some;
    free = g.free;
    high_in = omega (arith, g.high_in);
    low_in = g.low_in;
    other = g.other;
    aside = g.aside;
    beside = g.beside;
    ended = inr (omega (arith, g.upto_in));
  }

  -- one reaches into it
  runs_passed : get_or rs n 0 ≡ 0 → n < r.start → Runs rs (suc n) r
  runs_passed e c = record {
    start_far = λ k h. by_index k n (λ q. rw (q, e) (omega arith)) (λ ne. g.start_far k (omega arith));
    upto_in = omega (arith, g.upto_in);
    from_in = g.from_in;
    some = g.some;
    free = g.free;
    high_in = omega (arith, g.high_in);
    low_in = g.low_in;
    other = g.other;
    aside = g.aside;
    beside = g.beside;
    ended = inr (omega (arith, g.upto_in));
  }

  -- it is free
  module _ (e : get_or rs n 0 ≡ 0) (c : r.start ≤ n) where
    far : (k : ℕ) → k < suc n → get_or rs k 0 ≤ r.start
    far k h = by_index k n (λ q. rw (q, e) (omega arith)) (λ ne. g.start_far k (omega arith))

    runs_grown : r.upto ≡ n → Runs rs (suc n) (run r.start (n + 1) r.low r.high r.start)
    runs_grown u = record {
      start_far = far;
      upto_in = omega arith;
      from_in = omega arith;
      some = inr (omega arith);
      free = λ k h. far k (omega arith);
      high_in = omega (arith, g.high_in);
      low_in = g.low_in;
      other = g.other;
      aside = g.aside;
      beside = inl (⊎_elim
          (λ a. ⊎_elim (λ b. omega (arith, a.0)) (λ b. absurd (omega (arith, b.0, b.1, g.high_in))) g.beside)
          (λ a. omega (arith, g.high_in))
          g.ended);
      ended = inl (refl, omega arith);
    }

    -- the longest run has ended
    before : (r.upto ≡ n → ⊥) → r.upto ≤ r.start
    before ne = ⊎_elim (λ a. absurd (ne a.1)) (λ a. a) g.ended

    runs_longest : (r.upto ≡ n → ⊥) → Runs rs (suc n) (run r.start (n + 1) r.from r.upto r.start)
    runs_longest ne = record {
      start_far = far;
      upto_in = omega arith;
      from_in = omega arith;
      some = inr (omega arith);
      free = λ k h. far k (omega arith);
      high_in = omega (arith, g.upto_in);
      low_in = g.from_in;
      other = g.some;
      aside = g.free;
      beside = inl (before ne);
      ended = inl (refl, omega arith);
    }

    runs_second : (r.upto ≡ n → ⊥) → Runs rs (suc n) (run r.from r.upto r.start (n + 1) r.start)
    runs_second ne = record {
      start_far = far;
      upto_in = omega (arith, g.upto_in);
      from_in = g.from_in;
      some = g.some;
      free = g.free;
      high_in = omega arith;
      low_in = omega arith;
      other = inr (omega arith);
      aside = λ k h. far k (omega arith);
      beside = inr (before ne, omega arith);
      ended = inr (before ne);
    }

    runs_same : (r.upto ≡ n → ⊥) → Runs rs (suc n) r
    runs_same ne = record {
      start_far = far;
      upto_in = omega (arith, g.upto_in);
      from_in = g.from_in;
      some = g.some;
      free = g.free;
      high_in = omega (arith, g.high_in);
      low_in = g.low_in;
      other = g.other;
      aside = g.aside;
      beside = g.beside;
      ended = inr (before ne);
    }

    runs_free : Runs rs (suc n) (free_at r n)
    unfolding free_at
    runs_free = by_index r.upto n
        (λ u. rw (eq-eqb r.upto n u) (runs_grown u))
        (λ ne. rw (ne_eqb r.upto n ne)
        (by_lt (r.upto - r.from) (n + 1 - r.start)
        (λ a. rw (lt-ltb (r.upto - r.from) (n + 1 - r.start) a) (runs_longest ne))
        (λ a. rw (le-ltb (r.upto - r.from) (n + 1 - r.start) a)
        (by_lt (r.high - r.low) (n + 1 - r.start)
        (λ b. rw (lt-ltb (r.high - r.low) (n + 1 - r.start) b) (runs_second ne))
        (λ b. rw (le-ltb (r.high - r.low) (n + 1 - r.start) b) (runs_same ne))))))

  runs_on : Runs rs (suc n) (run_on r (get_or rs n 0) n)
  unfolding run_on
  runs_on = by_lt 0 (get_or rs n 0)
      (λ a. let x = get_or rs n 0 in
      let m = greater r.start x in
      rw (lt-ltb 0 (get_or rs n 0) a)
      (runs_blocked (greater m (n + 1))
      (omega (arith, greater_left r.start x, greater_left m (n + 1)))
      (omega (arith, greater_right r.start x, greater_left m (n + 1)))
      (omega (arith, greater_right m (n + 1)))))
      (λ a. let e : get_or rs n 0 ≡ 0 = omega arith in
      by_lt n r.start
      (λ b. rw (le-ltb 0 (get_or rs n 0) a, lt-ltb n r.start b) (runs_passed e b))
      (λ b. rw (le-ltb 0 (get_or rs n 0) a, le-ltb n r.start b) (runs_free e b)))

pub runs_law : (rs : List ℕ) (n : ℕ) → Runs rs n (run_to rs n)
unfolding run_to
runs_law rs zero = record {
  start_far = λ k h. absurd (omega arith);
  upto_in = omega arith;
  from_in = omega arith;
  some = inl refl;
  free = λ k h. absurd (omega arith);
  high_in = omega arith;
  low_in = omega arith;
  other = inl refl;
  aside = λ k h. absurd (omega arith);
  beside = inl (omega arith);
  ended = inr (omega arith);
}
runs_law rs (suc n) = runs_on rs n (run_to rs n) (runs_law rs n)

-- the same of a result
pub run_before : (rs : List ℕ) (n : ℕ) (r : Run) → r ≡ run_to rs n → (r.from ≤ r.upto) × (r.low ≤ r.high)
run_before rs n r e = let g = runs_law rs n in rw e (g.from_in, g.low_in)

-- the pieces of a store
abbrev count : ℕ → ℕ
count len = (len + 8192 - 1) / 8192

pub count_few : (len : ℕ) → len < 2097152 → count len ≤ 256
count_few len h = omega (arith, piece_low (len + 8192 - 1))

-- all but the last are whole, and the last has a byte
count_last : (len k : ℕ) → k < count len → k * 8192 < len
count_last len k h = omega (arith, piece_low (len + 8192 - 1))

found_none : (ws : List ℕ) (used len : ℕ) → 2097152 ≤ len → found ws used len ≡ gaps 0 0 0 0
unfolding found
found_none ws used len h = rw (le-leb 2097152 len h)

found_some : (ws : List ℕ) (used len : ℕ) → len < 2097152 → found ws used len ≡ bytes_of len (run_to (reach_to ws used 1024) (count len))
unfolding found
found_some ws used len h = rw (lt-leb 2097152 len h)

-- the steps of find_gaps, and its ways out
pub record Small (r : Run) : Type 0 where
  pub from_few : r.from ≤ 256
  pub upto_few : r.upto ≤ 256
  pub low_few : r.low ≤ 256
  pub high_few : r.high ≤ 256

pub run_small : (rs : List ℕ) (len : ℕ) (r : Run) → r ≡ run_to rs (count len) → len < 2097152 → Small r
run_small rs len r e h =
    let g = runs_law rs (count len) in
    let b = count_few len h in
    rw e (record {
      from_few = omega (arith, g.from_in, g.upto_in);
      upto_few = omega (arith, g.upto_in);
      low_few = omega (arith, g.low_in, g.high_in);
      high_few = omega (arith, g.high_in);
    })

pub out_large : (ws : List ℕ) (used len : ℕ) → 2097152 ≤ len → gaps 0 0 0 0 ≡ found ws used len
out_large ws used len h = sym (found_none ws used len h)

pub out_run : (ws rs : List ℕ) (used len limit upto : ℕ) (r : Run) → len < 2097152 → rs ≡ reach_to ws used 1024 → r ≡ run_to rs (count len)
    → limit ≡ within len (r.upto * 8192) → upto ≡ within len (r.high * 8192) → gaps (r.from * 8192) limit (r.low * 8192) upto ≡ found ws used len
out_run ws rs used len limit upto r h ers er el eu = rw (el, eu, er, ers) (sym (found_some ws used len h))

-- a run's bytes: below the store's length, and no further than the run
within_law : (len x : ℕ) → (within len x ≤ len) × (within len x ≤ x)
unfolding within
within_law len x = by_lt len x (λ h. rw (lt-ltb len x h) (omega arith, omega arith)) (λ h. rw (le-ltb len x h) (h, omega arith))

above_within : (len x y : ℕ) → y ≤ len → y ≤ x → y ≤ within len x
unfolding within
above_within len x y a b = by_lt len x (λ h. rw (lt-ltb len x h) a) (λ h. rw (le-ltb len x h) b)

-- it begins in the store
run_begins : (len a b : ℕ) → a ≤ b → b ≤ count len → (b ≡ 0) ⊎ (a < b) → a * 8192 ≤ len
run_begins len a b i h s = ⊎_elim (λ z. omega arith) (λ z. omega (arith, count_last len a (omega arith))) s

-- on any words
found_ordered : (ws : List ℕ) (used len : ℕ) → Ordered (found ws used len) len
found_ordered ws used len = by_lt len 2097152
    (λ h. let g = runs_law (reach_to ws used 1024) (count len) in
    let r = run_to (reach_to ws used 1024) (count len) in
    rw (found_some ws used len h) (record {
      limit_in = (within_law len (r.upto * 8192)).0;
      end_in = above_within len (r.upto * 8192) (r.from * 8192) (run_begins len r.from r.upto g.from_in g.upto_in g.some) (omega (arith, g.from_in));
      upto_in = (within_law len (r.high * 8192)).0;
      from_in = above_within len (r.high * 8192) (r.low * 8192) (run_begins len r.low r.high g.low_in g.high_in g.other) (omega (arith, g.low_in));
    }))
    (λ h. rw (found_none ws used len h) (record { limit_in = omega arith; end_in = omega arith; upto_in = omega arith; from_in = omega arith }))

-- the same of a result
pub found_gap : (ws : List ℕ) (used len : ℕ) (f : Gaps) → f ≡ found ws used len → (f.end ≤ f.limit) × (f.limit ≤ len)
found_gap ws used len f e = let o = found_ordered ws used len in rw e (o.end_in, o.limit_in)

-- every payload is clear of a run
run_clear : (ws rs : List ℕ) (a b len : ℕ) → ((i : ℕ) → i < 1024 → 1 ≤ size_of ws i → Reaches ws rs i) → ((k : ℕ) → k < b → get_or rs k 0 ≤ a) → ClearOf ws (a * 8192) (within len (b * 8192))
run_clear ws rs a b len t f i h s =
    let p = place_of ws i in
    let e = place_of ws i + size_of ws i in
    by_lt (p / 8192) b
    (λ c. inl (omega (arith, t i h s, f (p / 8192) c, piece_high e)))
    (λ c. inr (omega (arith, piece_low p, (within_law len (b * 8192)).1)))

-- the two are apart
run_beside : (len : ℕ) (rs : List ℕ) (r : Run) → Runs rs (count len) r
    → ((bytes_of len r).upto ≤ (bytes_of len r).end) ⊎ (((bytes_of len r).limit ≤ (bytes_of len r).from) × ((bytes_of len r).from < (bytes_of len r).upto))
run_beside len rs r g = ⊎_elim
    (λ a. inl (omega (arith, (within_law len (r.high * 8192)).1)))
    (λ a. inr (
      omega (arith, (within_law len (r.upto * 8192)).1, a.0),
      above_within len (r.high * 8192) (suc (r.low * 8192)) (omega (arith, count_last len r.low (omega (arith, a.1, g.high_in)))) (omega (arith, a.1)),
    ))
    g.beside

-- THE THEOREM of the search: whatever is found, every payload is clear of it
pub found_lay : (ws st : List ℕ) (g : Gaps) → Lay ws st g → Lay ws st (found ws (used_of ws) (length st))
found_lay ws st g l = by_lt (length st) 2097152
    (λ h. let u = used_of ws in
    let rs = reach_to ws u 1024 in
    let n = count (length st) in
    let r = run_to rs n in
    let w = runs_law rs n in
    let t : (i : ℕ) → i < 1024 → 1 ≤ size_of ws i → Reaches ws rs i =
    λ i b s. rw l.used_is (reaches_all ws 1024 i (omega arith) b s (omega (arith, l.inside i b))) in
    let e = found_some ws u (length st) h in
    lay_with ws st g (found ws u (length st)) l (found_ordered ws u (length st)) (rw e (run_beside (length st) rs r w))
    (rw e (run_clear ws rs r.from r.upto (length st) t w.free))
    (rw e (run_clear ws rs r.low r.high (length st) t w.aside)))
    (λ h. let u = used_of ws in
    let e = found_none ws u (length st) h in
    lay_with ws st g (found ws u (length st)) l (found_ordered ws u (length st)) (rw e (inl (omega arith))) (rw e (λ i b s. inr (omega arith))) (rw e (λ i b s. inr (omega arith))))
