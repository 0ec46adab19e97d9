-- The choice in two levels is right: the row that is found stands among the n, and where the groups' words are right (`Leasts`) it is at most each of
-- them. What a store, and making a
-- group fresh, leave of that. Assumes nothing.
use mathlib.Core.Path.{◌≡◌, refl, sym, ap, ap₂, ◌∙◌, subst}
use mathlib.Core.Bool.{Bool, true, false, ◌&&◌, ◌||◌}
use mathlib.Core.Logic.{◌⊎◌, inl, inr}
use mathlib.Core.List.{List}
use Prim.Native.Nat.{ℕ, zero, suc, ◌+◌, ◌-◌, ◌*◌, ◌/◌, ◌≤◌, ◌<◌}
use native.Mathlib.Omega.{arith}
use lib.Dec.{eqb, ltb, leb}
use lib.ListN.{length, get_or, set}
use lib.Seq.{get_or-set_same, get_or-set_other}
use Rattle.std.specs.Prelude.{if◌then◌else◌}
use Rattle.queue_model.proofs.Tests.{ltb_true, ltb_false, eqb_true, eqb_false, less, same, more, tri}
use borrow.Author.Tests as tests
use Rattle.queue_words.specs.Active.{active_at}
use Rattle.queue_words.specs.Header.{options_at, scheduler_at}
use Rattle.queue_words.specs.Leasts.{group_of, stale, leasts_at, least_at, put_least}
use Rattle.queue_words.proofs.Laws.{whole_put_least, options_put_least, scheduler_put_least, active_put_least, leasts_at_put}
use Rattle.active_table.specs.declared.Best.{Best}
use Rattle.active_table.specs.Groups.{groups_of, count_in, best_at, best_in, best_over, few, least_known, stale_from, least_in, refreshed_at, group_fresh, refreshed, AtMost, sooner, level, Leasts}
use Rattle.active_table.specs.Parts.{rows_from}
use Rattle.active_table.specs.Rows.{best_of, better, best_among, best_to}

-- ------------------------------------------------------------------ the order

at_most_refl : (a : Best) → AtMost a a
at_most_refl a = level refl (omega arith)

at_most_trans : (a b c : Best) → AtMost a b → AtMost b c → AtMost a c
at_most_trans a b c (sooner x) (sooner y) = sooner (omega arith)
at_most_trans a b c (sooner x) (level y z) = sooner (omega arith)
at_most_trans a b c (level x w) (sooner y) = sooner (omega arith)
at_most_trans a b c (level x w) (level y z) = level (omega arith) (omega arith)

-- The better of two is one of them, and at most the other.
data Picked (a b : Best) : Type 0 where
  left : better a b ≡ a → AtMost a b → Picked a b
  right : better a b ≡ b → AtMost b a → Picked a b

picked : (a b : Best) → Picked a b
unfolding better
picked a b =
    let f : Bool → Best = λ t. if t then b else a in
    elim (tri b.finish a.finish) [
      | less l ↦ right (ap (λ (x : Bool). f (x || (eqb b.finish a.finish && ltb b.id a.id))) (ltb_true l)) (sooner l)
      | more l ↦ (let h : a.finish ≤ b.finish = omega arith in
          let n : b.finish ≡ a.finish → ⊥ = λ g. omega arith in
          left (ap₂ (λ (x y : Bool). f (x || (y && ltb b.id a.id))) (ltb_false h) (eqb_false n)) (sooner l))
      | same g ↦ (let h : a.finish ≤ b.finish = omega arith in
          let c : better a b ≡ f (ltb b.id a.id) = ap₂ (λ (x y : Bool). f (x || (y && ltb b.id a.id))) (ltb_false h) (eqb_true g) in
          elim (tri b.id a.id) [
            | less l ↦ right (c ∙ ap f (ltb_true l)) (level g (omega arith))
            | same k ↦ (let m : a.id ≤ b.id = omega arith in left (c ∙ ap f (ltb_false m)) (level (sym g) m))
            | more l ↦ (let m : a.id ≤ b.id = omega arith in left (c ∙ ap f (ltb_false m)) (level (sym g) m))
          ])
    ]

-- ------------------------------------------------------------------ the best of a row and others

-- The best of row p and c rows from `from` on: one of them, and at most each.
record Among (ws : List ℕ) (p from c : ℕ) (b : Best) : Type 0 where
  own : b ≡ best_at ws b.at
  where_is : (b.at ≡ p) ⊎ ((from ≤ b.at) × (b.at < from + c))
  start_least : AtMost b (best_at ws p)
  rows_least : (j : ℕ) → j < c → AtMost b (best_at ws (from + j))

module _ (ws : List ℕ) (p from : ℕ) where
  wider : (c i : ℕ) → (i ≡ p) ⊎ ((from ≤ i) × (i < from + c)) → (i ≡ p) ⊎ ((from ≤ i) × (i < from + suc c))
  wider c i (inl e) = inl e
  wider c i (inr h) = inr (h.0, omega (arith, h.1))

  -- One row more.
  among_more : (c : ℕ) (b : Best) → Among ws p from c b → Picked b (best_at ws (from + c)) → Among ws p from (suc c) (better b (best_at ws (from + c)))
  among_more c b m (left e h) = subst (Among ws p from (suc c)) (sym e) (record {
    own = m.own;
    where_is = wider c b.at m.where_is;
    start_least = m.start_least;
    rows_least = λ j l. elim (tri j c) [
      | less o ↦ m.rows_least j o
      | same q ↦ subst (λ (x : ℕ). AtMost b (best_at ws (from + x))) (sym q) h
      | more o ↦ absurd (omega arith)
    ];
  })
  among_more c b m (right e h) = subst (Among ws p from (suc c)) (sym e) (record {
    own = refl;
    where_is = inr (omega arith, omega arith);
    start_least = at_most_trans (best_at ws (from + c)) b (best_at ws p) h m.start_least;
    rows_least = λ j l. elim (tri j c) [
      | less o ↦ at_most_trans (best_at ws (from + c)) b (best_at ws (from + j)) h (m.rows_least j o)
      | same q ↦ subst (λ (x : ℕ). AtMost (best_at ws (from + c)) (best_at ws (from + x))) (sym q) (at_most_refl (best_at ws (from + c)))
      | more o ↦ absurd (omega arith)
    ];
  })

  among_is : (c : ℕ) → Among ws p from c (best_among (rows_from ws from) (best_at ws p) from c)
  unfolding best_among
  among_is zero = record { own = refl; where_is = inl refl; start_least = at_most_refl (best_at ws p); rows_least = λ j l. absurd (omega arith) }
  among_is (suc c) = among_more c (best_among (rows_from ws from) (best_at ws p) from c) (among_is c) (picked (best_among (rows_from ws from) (best_at ws p) from c) (best_at ws (from + c)))

-- ------------------------------------------------------------------ the choice

-- A row of the n, whatever the words; where the groups' words are right, at most each of the first m of them.
pub record Least (ws : List ℕ) (n m : ℕ) (b : Best) : Type 0 where
  pub least_row : b ≡ best_at ws b.at
  pub least_in_lem : b.at < n
  pub least_first : Leasts ws n → (j : ℕ) → j < n → j < m → AtMost b (best_at ws j)

module _ (ws : List ℕ) (n : ℕ) where
  -- With group k: at most the best so far, and each of the group's.
  with_group : (k : ℕ) (s r : Best) → Least ws n (k * 24) s → r ≡ best_at ws r.at → (r.at ≡ s.at) ⊎ (r.at < n) → AtMost r s → (Leasts ws n → (j : ℕ) → j < count_in k n → AtMost r (best_at ws (k * 24 + j)))
      → Least ws n (suc k * 24) r
  with_group k s r l own place at_most rows = record {
    least_row = own;
    least_in_lem = inside place;
    least_first = λ w j h m. elim (tri j (k * 24)) [
      | less o ↦ at_most_trans r s (best_at ws j) at_most (l.least_first w j h o)
      | same q ↦ of_group w j h (omega arith) (omega arith)
      | more o ↦ of_group w j h (omega arith) (omega arith)
    ];
  }
    where
      inside : (r.at ≡ s.at) ⊎ (r.at < n) → r.at < n
      inside (inl e) = omega (arith, l.least_in_lem)
      inside (inr h) = h

      of_group : Leasts ws n → (j : ℕ) → j < n → k * 24 ≤ j → j < suc k * 24 → AtMost r (best_at ws j)
      of_group w j h a b =
          let e : k * 24 + (j - k * 24) ≡ j = omega arith in
          let c : j - k * 24 < count_in k n = omega arith in
          subst (λ (x : ℕ). AtMost r (best_at ws x)) e (rows w (j - k * 24) c)

  -- By its least row.
  by_fresh : (k : ℕ) (s : Best) → least_at ws k < count_in k n → Least ws n (k * 24) s → Picked s (best_at ws (k * 24 + least_at ws k)) → Least ws n (suc k * 24) (better s (best_at ws (k * 24 + least_at ws k)))
  by_fresh k s f l (left e h) = subst (Least ws n (suc k * 24)) (sym e)
      (with_group k s s l l.least_row (inl refl) (at_most_refl s) (λ w j c. at_most_trans s (best_at ws (k * 24 + least_at ws k)) (best_at ws (k * 24 + j)) h (w k f j c)))
  by_fresh k s f l (right e h) = subst (Least ws n (suc k * 24)) (sym e)
      (with_group k s (best_at ws (k * 24 + least_at ws k)) l refl (inr (omega arith)) h (λ w. w k f))

  -- By its rows.
  by_rows : (k : ℕ) (s : Best) → Least ws n (k * 24) s → Least ws n (suc k * 24) (best_among (rows_from ws (k * 24)) s (k * 24) (count_in k n))
  by_rows k s l = subst (λ (x : Best). Least ws n (suc k * 24) (best_among (rows_from ws (k * 24)) x (k * 24) (count_in k n))) (sym l.least_row) (go (best_among (rows_from ws (k * 24)) (best_at ws s.at) (k * 24) (count_in k n)) (among_is ws s.at (k * 24) (count_in k n)))
    where
      place : (i : ℕ) → (i ≡ s.at) ⊎ ((k * 24 ≤ i) × (i < k * 24 + count_in k n)) → (i ≡ s.at) ⊎ (i < n)
      place i (inl e) = inl e
      place i (inr h) = inr (omega (arith, h.0, h.1))

      go : (r : Best) → Among ws s.at (k * 24) (count_in k n) r → Least ws n (suc k * 24) r
      go r m = with_group k s r l m.own (place r.at m.where_is) (subst (AtMost r) (sym l.least_row) m.start_least) (λ w. m.rows_least)

  in_is : (k : ℕ) (s : Best) → Least ws n (k * 24) s → Least ws n (suc k * 24) (best_in ws n k s)
  unfolding best_in
  in_is k s l = go (ltb (least_at ws k) (count_in k n)) refl
    where
      go : (b : Bool) → ltb (least_at ws k) (count_in k n) ≡ b → Least ws n (suc k * 24) (if b then better s (best_at ws (k * 24 + least_at ws k)) else best_among (rows_from ws (k * 24)) s (k * 24) (count_in k n))
      go true e = by_fresh k s (tests.ltb-true _ _ e) l (picked s (best_at ws (k * 24 + least_at ws k)))
      go false e = by_rows k s l

  over_is : 0 < n → (k : ℕ) → Least ws n (k * 24) (best_over ws n k)
  unfolding best_over
  over_is pos zero = record { least_row = refl; least_in_lem = pos; least_first = λ w j h m. absurd (omega arith) }
  over_is pos (suc k) = in_is k (best_over ws n k) (over_is pos k)

  -- One group: all rows are looked at.
  all_is : 0 < n → Least ws n n (best_to ws (n - 1))
  unfolding best_to
  all_is pos = go (best_among (rows_from ws 1) (best_at ws 0) 1 (n - 1)) (among_is ws 0 1 (n - 1))
    where
      inside : (i : ℕ) → (i ≡ 0) ⊎ ((1 ≤ i) × (i < 1 + (n - 1))) → i < n
      inside i (inl e) = omega arith
      inside i (inr h) = omega (arith, h.1)

      go : (r : Best) → Among ws 0 1 (n - 1) r → Least ws n n r
      go r m = record {
        least_row = m.own;
        least_in_lem = inside r.at m.where_is;
        least_first = λ w j h k. elim (tri j 0) [
          | less o ↦ absurd (omega arith)
          | same q ↦ subst (λ (x : ℕ). AtMost r (best_at ws x)) (sym q) m.start_least
          | more o ↦ (let e : 1 + (j - 1) ≡ j = omega arith in subst (λ (x : ℕ). AtMost r (best_at ws x)) e (m.rows_least (j - 1) (omega arith)))
        ];
      }

  pub known_is : 0 < n → Least ws n n (least_known ws n)
  unfolding least_known
  known_is pos = go (leb n few)
    where
      over : Least ws n (groups_of n * 24) (best_over ws n (groups_of n)) → Least ws n n (best_over ws n (groups_of n))
      over l = record { least_row = l.least_row; least_in_lem = l.least_in_lem; least_first = λ w j h k. l.least_first w j h (omega arith) }

      go : (b : Bool) → Least ws n n (if b then best_to ws (n - 1) else best_over ws n (groups_of n))
      go true = all_is pos
      go false = over (over_is pos (groups_of n))

-- ------------------------------------------------------------------ stores

-- Words whose groups' words and rows are the same.
pub leasts_same : (ws us : List ℕ) (n : ℕ) → leasts_at us ≡ leasts_at ws → ((j : ℕ) → active_at us j ≡ active_at ws j) → Leasts ws n → Leasts us n
leasts_same ws us n e r l g h j k = rw (e, r (g * 24 + least_at ws g), r (g * 24 + j)) (l g (rw e at h) j k)

groups_long : (ws : List ℕ) → length (leasts_at ws) ≡ 11
unfolding leasts_at
groups_long ws = refl

-- The place j of a group's rows, of n: a row of another group is not it, and it is counted among others that have the row.
inside : (g n j : ℕ) → j < count_in g n → g * 24 + j < n
inside g n j h = omega arith

apart : (i g j n : ℕ) → i < 256 → (group_of i ≡ g → ⊥) → j < count_in g n → i ≡ g * 24 + j → ⊥
apart i g j n fits ne h e =
    let m : j < 24 = omega arith in
    ne (own m)
  where
    own : j < 24 → group_of i ≡ g
    own m = omega (arith, e)

counted : (g n n' j : ℕ) → j < count_in g n' → g * 24 + j < n → j < count_in g n
counted g n n' j h l =
    let m : j < 24 = omega arith in
    few m
  where
    few : j < 24 → j < count_in g n
    few m = omega arith

-- A row stored, which makes its group stale; of the n' rows after it all but that one are among the n before.
pub leasts_stored : (ws us : List ℕ) (i n n' : ℕ) → i < 256 → leasts_at us ≡ set (leasts_at ws) (group_of i) stale → ((j : ℕ) → (i ≡ j → ⊥) → active_at us j ≡ active_at ws j)
    → ((j : ℕ) → j < n' → (i ≡ j → ⊥) → j < n) → Leasts ws n → Leasts us n'
leasts_stored ws us i n n' fits e r down l g h j k = elim (tri g (group_of i)) [
  | less o ↦ other (λ q. omega arith)
  | same q ↦ (let w : least_at us g ≡ stale = ap₂ (λ (x : List ℕ) (y : ℕ). get_or x y 0) e q ∙ get_or-set_same (leasts_at ws) (group_of i) stale 0 (omega (arith, groups_long ws)) in absurd (omega arith))
  | more o ↦ other (λ q. omega arith)
]
  where
    other : (group_of i ≡ g → ⊥) → AtMost (best_at us (g * 24 + least_at us g)) (best_at us (g * 24 + j))
    other ne =
        let w : least_at us g ≡ least_at ws g = ap (λ (x : List ℕ). get_or x g 0) e ∙ get_or-set_other (leasts_at ws) (group_of i) g stale 0 (λ q. ne (sym q)) in
        let h' : least_at ws g < count_in g n' = subst (λ (x : ℕ). x < count_in g n') w h in
        let p : i ≡ g * 24 + least_at ws g → ⊥ = apart i g (least_at ws g) n' fits ne h' in
        let q : i ≡ g * 24 + j → ⊥ = apart i g j n' fits ne k in
        rw (w, r (g * 24 + least_at ws g) p, r (g * 24 + j) q)
        (l g (counted g n n' (least_at ws g) h' (down (g * 24 + least_at ws g) (inside g n' (least_at ws g) h') p)) j (counted g n n' j k (down (g * 24 + j) (inside g n' j k) q)))

-- A group made fresh.
module _ (ws : List ℕ) (n g : ℕ) where
  place_in : Among ws (g * 24) (g * 24) (count_in g n) (least_in ws n g)
  unfolding least_in
  place_in = among_is ws (g * 24) (g * 24) (count_in g n)

  -- The least row stands in its group.
  pub least_from : g * 24 ≤ (least_in ws n g).at
  least_from = go (least_in ws n g).at place_in.where_is
    where
      go : (i : ℕ) → (i ≡ g * 24) ⊎ ((g * 24 ≤ i) × (i < g * 24 + count_in g n)) → g * 24 ≤ i
      go i (inl e) = omega arith
      go i (inr h) = h.0

  pub leasts_refreshed : length ws ≡ 20768 → g < 11 → Leasts ws n → Leasts (refreshed_at ws n g) n
  unfolding refreshed_at
  leasts_refreshed long fits l k h j c = elim (tri k g) [
    | less o ↦ other (λ q. omega arith)
    | same q ↦ own q
    | more o ↦ other (λ q. omega arith)
  ]
    where
      v : ℕ
      v = (least_in ws n g).at - g * 24

      us : List ℕ
      us = put_least ws g v

      words : leasts_at us ≡ set (leasts_at ws) g v
      words = leasts_at_put ws g v long fits

      rows : (i : ℕ) → best_at us i ≡ best_at ws i
      rows i = ap (λ a. best_of a i) (active_put_least ws g v i fits)

      own : k ≡ g → AtMost (best_at us (k * 24 + least_at us k)) (best_at us (k * 24 + j))
      own q =
          let w : least_at us k ≡ v = ap₂ (λ (x : List ℕ) (y : ℕ). get_or x y 0) words q ∙ get_or-set_same (leasts_at ws) g v 0 (omega (arith, groups_long ws)) in
          let z : k * 24 + least_at us k ≡ (least_in ws n g).at = omega (arith, least_from) in
          let y : k * 24 + j ≡ g * 24 + j = omega arith in
          let m : j < count_in g n = subst (λ (x : ℕ). j < count_in x n) q c in
          rw (z, y, rows (least_in ws n g).at, rows (g * 24 + j), ← place_in.own) (place_in.rows_least j m)

      other : (g ≡ k → ⊥) → AtMost (best_at us (k * 24 + least_at us k)) (best_at us (k * 24 + j))
      other ne =
          let w : least_at us k ≡ least_at ws k = ap (λ (x : List ℕ). get_or x k 0) words ∙ get_or-set_other (leasts_at ws) g k v 0 (λ q. ne (sym q)) in
          rw (w, rows (k * 24 + least_at ws k), rows (k * 24 + j)) (l k (omega arith) j c)

-- What holds of the words, and stays true where a group of the rows in use is made fresh, holds of `refreshed`.
module _ (ws : List ℕ) (at : ℕ) where
  abbrev n : ℕ
  n = (scheduler_at ws).active

  module _ (P : List ℕ → Type 0) (fresh : (us : List ℕ) (g : ℕ) → g < 11 → P us → P (refreshed_at us n g)) where
    group_by : (us : List ℕ) (g : ℕ) → n ≤ 256 → P us → P (group_fresh us n g)
    unfolding group_fresh
    group_by us g fits p = go (ltb g (groups_of n)) refl
      where
        go : (b : Bool) → ltb g (groups_of n) ≡ b → P (if b then refreshed_at us n g else us)
        go true e = fresh us g (omega (arith, tests.ltb-true g (groups_of n) e)) p
        go false e = p

    pub refreshed_by : P ws → P (refreshed ws at)
    unfolding refreshed
    refreshed_by p = go (ltb 256 n) (leb n few) refl
      where
        us : List ℕ
        us = group_fresh ws n (at / 24)

        go : (a b : Bool) → ltb 256 n ≡ a → P (if a then ws else if b then ws else group_fresh us n (stale_from us n 0 (groups_of n)))
        go true b e = p
        go false true e = p
        go false false e =
            let h : n ≤ 256 = tests.ltb-false 256 n e in
            group_by us (stale_from us n 0 (groups_of n)) h (group_by ws (at / 24) h p)

  -- What is read of words with groups made fresh.
  pub refreshed_puts : (P : List ℕ → Type 0) → ((us : List ℕ) (g v : ℕ) → g < 11 → P us → P (put_least us g v)) → P ws → P (refreshed ws at)
  unfolding refreshed_at
  refreshed_puts P fresh = refreshed_by P (λ us g fits. fresh us g _ fits)

  pub refreshed_whole : length (refreshed ws at) ≡ length ws
  refreshed_whole = refreshed_puts (λ us. length us ≡ length ws) (λ us g v h e. whole_put_least us g v ∙ e) refl

  pub refreshed_options : options_at (refreshed ws at) ≡ options_at ws
  refreshed_options = refreshed_puts (λ us. options_at us ≡ options_at ws) (λ us g v h e. options_put_least us g v ∙ e) refl

  pub refreshed_scheduler : scheduler_at (refreshed ws at) ≡ scheduler_at ws
  refreshed_scheduler = refreshed_puts (λ us. scheduler_at us ≡ scheduler_at ws) (λ us g v h e. scheduler_put_least us g v ∙ e) refl

  pub refreshed_rows : (j : ℕ) → active_at (refreshed ws at) j ≡ active_at ws j
  refreshed_rows j = refreshed_puts (λ us. active_at us j ≡ active_at ws j) (λ us g v h e. active_put_least us g v j h ∙ e) refl

  whole_refreshed : (us : List ℕ) (g : ℕ) → length (refreshed_at us n g) ≡ length us
  unfolding refreshed_at
  whole_refreshed us g = whole_put_least us g _

  pub refreshed_leasts : length ws ≡ 20768 → Leasts ws n → Leasts (refreshed ws at) n
  refreshed_leasts long l = (refreshed_by Right (λ us g fits p. (whole_refreshed us g ∙ p.0, leasts_refreshed us n g p.0 fits p.1)) (long, l)).1
    where
      Right : List ℕ → Type 0
      Right us = (length us ≡ 20768) × Leasts us n
