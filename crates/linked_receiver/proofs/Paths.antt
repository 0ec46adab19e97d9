-- Rows that follow each other in a message: so many steps forward from a row, and back again. Assumes nothing.
use mathlib.Core.Path.{◌≡◌, refl, sym, ap, ◌∙◌, subst}
use mathlib.Core.Bool.{Bool, true, false, not, ◌&&◌}
use mathlib.Core.List.{List, [], ◌∷◌, map}
use mathlib.Core.Option.{none, some}
use Prim.Native.Nat.{ℕ, zero, suc, ◌+◌, ◌%◌, ◌^◌, ◌≤◌, ◌<◌}
use native.Mathlib.Omega.{arith}
use lib.Dec.{eqb}
use lib.ListN.{length}
use borrow.Author.Tests.{ne_eqb, le-leb, lt-leb, not-true}
use Rattle.types.specs.Wrap.{wrap_suc}
use Rattle.queue_words.specs.Flags.{bit}
use Rattle.receiver_model.specs.Lists.{count, first_with}
use Rattle.receiver_model.specs.Types.{DATA, I-DATA, Chunk}
use Rattle.receiver_model.specs.Assembly.{begins, same_message, goes_on}
use Rattle.receiver_model.proofs.Lists.{true≢false, and_left, and_right, eqb_is, Value, yes_is, no_is, value, count_nil, count_here, count_there, equal, other, compare_same, first_yes, first_no, first_nil, hit, miss, Search, search_in, length_keep, at_least, none≢some, some_is}
use Rattle.receiver_words.specs.Fragments.{fragment_at, FitsFragment}
use Rattle.receiver_words.specs.Chunks.{kind_of, chunk_of}
use Rattle.receiver_words.specs.declared.fragments.Fragment.{Fragment}
use Rattle.receiver_words.proofs.Records.{fragment_at_fits}
use Rattle.receiver_words.proofs.Rows.{by_row}
use Rattle.receiver_messages.specs.Keys.{following}
use Rattle.receiver_messages.specs.Walks.{is_whole, begins_with, row_after, row_before_words, reaches_last, first_row}
use Rattle.linked_receiver.specs.Rows.{Indexed, Unique, chunk_at, loose_rows, tail_rows}
use Rattle.linked_receiver.proofs.Walks.{NextRow, no_row, a_row, next_row, goes_key, loose_held}
use Rattle.linked_receiver.proofs.Back.{LeadsTo, RowBefore, none_before, one_before, row_before}

-- ------------------------------------------------------------------ what grows by one from fragment to fragment

-- the FSN of I-DATA, the TSN of DATA
abbrev pub step_of : Bool → Fragment → ℕ
step_of true f = f.fsn.0
step_of false f = f.tsn

step_fits : (b : Bool) (f : Fragment) → FitsFragment f → step_of b f < 2 ^ 32
step_fits true f h = h.fsn_fits
step_fits false f h = h.tsn_fits

goes_step : (b : Bool) (c d : Fragment) (p q : List ℕ) → goes_on (kind_of b) (chunk_of (kind_of b) c p) (chunk_of (kind_of b) d q) ≡ true → step_of b d ≡ wrap_suc 32 (step_of b c)
unfolding goes_on
goes_step false c d p q e =
    let a = and_left (eqb d.tsn (wrap_suc 32 c.tsn) && not d.first) (same_message DATA (chunk_of DATA c p) (chunk_of DATA d q)) e in
    eqb_is (and_left (eqb d.tsn (wrap_suc 32 c.tsn)) (not d.first) a)
goes_step true c d p q e = eqb_is (and_left (eqb d.fsn.0 (wrap_suc 32 c.fsn.0)) (same_message I-DATA (chunk_of I-DATA c p) (chunk_of I-DATA d q)) e)

-- the test does not look at payloads
pub begins_bare : (b : Bool) (f : Fragment) (p : List ℕ) → begins (kind_of b) (chunk_of (kind_of b) f p) ≡ begins_with b f
unfolding begins
begins_bare true f p = refl
begins_bare false f p = refl

-- a fragment that is gone on to, fewer than 2^32 steps from one that begins, does not begin
later_begins : (b : Bool) (c d h : Fragment) (p q : List ℕ) (n : ℕ) → goes_on (kind_of b) (chunk_of (kind_of b) c p) (chunk_of (kind_of b) d q) ≡ true → begins_with b h ≡ true
    → step_of b d ≡ (step_of b h + suc n) % 2 ^ 32 → n < 8192 → begins_with b d ≡ false
unfolding goes_on begins
later_begins false c d h p q n e f s l =
    let a = and_left (eqb d.tsn (wrap_suc 32 c.tsn) && not d.first) (same_message DATA (chunk_of DATA c p) (chunk_of DATA d q)) e in
    not-true d.first (and_right (eqb d.tsn (wrap_suc 32 c.tsn)) (not d.first) a)
later_begins true c d h p q n e f s l = let z : h.fsn.0 ≡ 0 = eqb_is f in ne_eqb d.fsn.0 0 (λ g. omega arith)

first_passes : {A : Type 0} (test : A → Bool) (xs : List A) (d : A) → first_with test xs ≡ some d → test d ≡ true
first_passes test [] d e = absurd (none≢some (first_nil test) e)
first_passes test (x ∷ xs) d e = elim (value (test x)) [
  | yes_is f ↦ ap test (sym (some_is (sym (first_yes test x xs f) ∙ e))) ∙ f
  | no_is f ↦ first_passes test xs d (sym (first_no test x xs f) ∙ e)
]

-- ------------------------------------------------------------------ steps forward

module _ (ws : List ℕ) (b : Bool) where
  -- so many steps forward from a row
  abbrev pub at : ℕ → ℕ → ℕ
  at zero h = h
  at (suc p) h = row_after ws b (at p h)

  -- each step leads from a row that is not marked last to a row
  abbrev pub Path : ℕ → ℕ → Type 0
  Path zero h = Unit {0}
  Path (suc p) h = Path p h × ((fragment_at ws (at p h)).last ≡ false) × (at (suc p) h < 4096)

  pub at_front : (p h : ℕ) → at p (row_after ws b h) ≡ at (suc p) h
  at_front zero h = refl
  at_front (suc p) h = ap (row_after ws b) (at_front p h)

  pub path_cons : (p h : ℕ) → (fragment_at ws h).last ≡ false → row_after ws b h < 4096 → Path p (row_after ws b h) → Path (suc p) h
  path_cons zero h e l c = (tt, e, l)
  path_cons (suc p) h e l (c, f, m) = (
    path_cons p h e l c,
    subst (λ (x : ℕ). (fragment_at ws x).last ≡ false) (at_front p h) f,
    subst (λ (x : ℕ). x < 4096) (at_front (suc p) h) m,
  )

  pub path_tail : (p h : ℕ) → Path (suc p) h → ((fragment_at ws h).last ≡ false) × (row_after ws b h < 4096) × Path p (row_after ws b h)
  path_tail zero h (c, e, l) = (e, l, tt)
  path_tail (suc p) h (c, e, l) =
      let r = path_tail p h c in (
        r.0,
        r.1,
        (r.2, subst (λ (x : ℕ). (fragment_at ws x).last ≡ false) (sym (at_front p h)) e, subst (λ (x : ℕ). x < 4096) (sym (at_front (suc p) h)) l),
      )

  -- a part of it
  pub path_take : (p q h : ℕ) → q ≤ p → Path p h → Path q h
  path_take zero zero h l c = tt
  path_take zero (suc q) h l c = absurd (omega arith)
  path_take (suc p) q h l c = elim (compare_same q (suc p)) [
    | equal e ↦ subst (λ (n : ℕ). Path n h) (sym e) c
    | other ne ↦ path_take p q h (omega arith) c.0
  ]

  -- no row before its end is marked last
  pub path_within : (p q h : ℕ) → q < p → Path p h → (fragment_at ws (at q h)).last ≡ false
  path_within p q h l c = (path_take p (suc q) h (omega arith) c).1

  pub path_drop : (n p q h : ℕ) → n ≡ p + q → Path n h → Path q (at p h)
  path_drop n zero q h e c = subst (λ (m : ℕ). Path m h) (let z : n ≡ q = omega arith in z) c
  path_drop zero (suc p) q h e c = absurd (omega arith)
  path_drop (suc n) (suc p) q h e c = subst (λ (x : ℕ). Path q x) (at_front p h) (path_drop n p q (row_after ws b h) (omega arith) (path_tail n h c).2)

  pub path_join : (n p q h : ℕ) → n ≡ p + q → Path p h → Path q (at p h) → Path n h
  path_join n zero q h e c d = subst (λ (m : ℕ). Path m h) (let z : q ≡ n = omega arith in z) d
  path_join zero (suc p) q h e c d = absurd (omega arith)
  path_join (suc n) (suc p) q h e c d =
      let t = path_tail p h c in
      path_cons n h t.0 t.1 (path_join n p q (row_after ws b h) (omega arith) t.2 (subst (λ (x : ℕ). Path q x) (sym (at_front p h)) d))

  pub at_add : (n p q h : ℕ) → n ≡ p + q → at q (at p h) ≡ at n h
  at_add n zero q h e = ap (λ (m : ℕ). at m h) (let z : q ≡ n = omega arith in z)
  at_add zero (suc p) q h e = absurd (omega arith)
  at_add (suc n) (suc p) q h e = ap (at q) (sym (at_front p h)) ∙ at_add n p q (row_after ws b h) (omega arith) ∙ at_front n h

  -- ---------------------------------------------------------------- up to a row marked last

  -- a row marked last fewer than n steps away
  pub record Ends (n h : ℕ) : Type 0 where
    pub steps : ℕ
    pub below : steps < n
    pub path : Path steps h
    pub marked : (fragment_at ws (at steps h)).last ≡ true

  module _ (n i : ℕ) where
    pub reach_last : (fragment_at ws i).last ≡ true → reaches_last (suc n) ws b i ≡ true
    unfolding reaches_last
    reach_last e = rw e

    pub reach_none : (fragment_at ws i).last ≡ false → 4096 ≤ row_after ws b i → reaches_last (suc n) ws b i ≡ false
    unfolding reaches_last
    reach_none e r = rw (e, le-leb _ _ r)

    pub reach_next : (fragment_at ws i).last ≡ false → row_after ws b i < 4096 → reaches_last (suc n) ws b i ≡ reaches_last n ws b (row_after ws b i)
    unfolding reaches_last
    reach_next e r = rw (e, lt-leb _ _ r)

  pub reach_ends : (n i : ℕ) → reaches_last n ws b i ≡ true → Ends n i
  unfolding reaches_last
  reach_ends zero i e = absurd (true≢false e refl)
  reach_ends (suc n) i e = go (value (fragment_at ws i).last) (λ f. reach_ends n (row_after ws b i) f)
    where
      more : (fragment_at ws i).last ≡ false → row_after ws b i < 4096 → Ends n (row_after ws b i) → Ends (suc n) i
      more f l t = let k = t.below in record {
        steps = suc t.steps;
        below = omega arith;
        path = path_cons t.steps i f l t.path;
        marked = subst (λ (x : ℕ). (fragment_at ws x).last ≡ true) (at_front t.steps i) t.marked;
      }

      go : Value (fragment_at ws i).last → (reaches_last n ws b (row_after ws b i) ≡ true → Ends n (row_after ws b i)) → Ends (suc n) i
      go (yes_is f) ih = record { steps = 0; below = omega arith; path = tt; marked = f }
      go (no_is f) ih = by_row (row_after ws b i) (λ l. more f l (ih (sym (reach_next n i f l) ∙ e))) (λ l. absurd (true≢false e (reach_none n i f l)))

  pub ends_reach : (q n i : ℕ) → q < n → Path q i → (fragment_at ws (at q i)).last ≡ true → reaches_last n ws b i ≡ true
  ends_reach q zero i l c e = absurd (omega arith)
  ends_reach zero (suc n) i l c e = reach_last n i e
  ends_reach (suc q) (suc n) i l c e =
      let t = path_tail q i c in
      reach_next n i t.0 t.1 ∙ ends_reach q n (row_after ws b i) (omega arith) t.2 (subst (λ (x : ℕ). (fragment_at ws x).last ≡ true) (sym (at_front q i)) e)

  -- row y is so many steps away
  pub record Stepped (h y : ℕ) : Type 0 where
    pub steps : ℕ
    pub path : Path steps h
    pub is : at steps h ≡ y

  -- one or more, at most n
  pub record Behind (n h y : ℕ) : Type 0 where
    pub steps : ℕ
    pub below : steps < n
    pub path : Path (suc steps) h
    pub is : at (suc steps) h ≡ y

  module _ (n i : ℕ) where
    pub tail_last : (fragment_at ws i).last ≡ true → tail_rows (suc n) ws b i ≡ []
    unfolding tail_rows
    tail_last e = rw e

    pub tail_none : (fragment_at ws i).last ≡ false → 4096 ≤ row_after ws b i → tail_rows (suc n) ws b i ≡ []
    unfolding tail_rows
    tail_none e r = rw (e, le-leb _ _ r)

    pub tail_next : (fragment_at ws i).last ≡ false → row_after ws b i < 4096 → tail_rows (suc n) ws b i ≡ row_after ws b i ∷ tail_rows n ws b (row_after ws b i)
    unfolding tail_rows
    tail_next e r = rw (e, lt-leb _ _ r)

  -- the rows of the tail are
  pub tail_steps : (n h y : ℕ) → 0 < count y (tail_rows n ws b h) → Behind n h y
  unfolding tail_rows
  tail_steps zero h y c = absurd (let z = count_nil y in omega arith)
  tail_steps (suc n) h y c = go (value (fragment_at ws h).last) (λ k. tail_steps n (row_after ws b h) y k)
    where
      more : (fragment_at ws h).last ≡ false → row_after ws b h < 4096 → Behind n (row_after ws b h) y → Behind (suc n) h y
      more f l t = let k = t.below in record { steps = suc t.steps; below = omega arith; path = path_cons (suc t.steps) h f l t.path; is = sym (at_front (suc t.steps) h) ∙ t.is }

      next : (fragment_at ws h).last ≡ false → row_after ws b h < 4096 → (0 < count y (tail_rows n ws b (row_after ws b h)) → Behind n (row_after ws b h) y) → Behind (suc n) h y
      next f l ih =
          let e : count y (tail_rows (suc n) ws b h) ≡ count y (row_after ws b h ∷ tail_rows n ws b (row_after ws b h)) = ap (count y) (tail_next n h f l) in
          elim (compare_same (row_after ws b h) y) [
            | equal s ↦ record { steps = 0; below = omega arith; path = (tt, f, l); is = s }
            | other d ↦ (let k = count_there y (row_after ws b h) (tail_rows n ws b (row_after ws b h)) d in more f l (ih (omega arith)))
          ]

      go : Value (fragment_at ws h).last → (0 < count y (tail_rows n ws b (row_after ws b h)) → Behind n (row_after ws b h) y) → Behind (suc n) h y
      go (yes_is f) ih = absurd (let e : count y (tail_rows (suc n) ws b h) ≡ count y [] = ap (count y) (tail_last n h f) in let z = count_nil y in omega arith)
      go (no_is f) ih =
          by_row (row_after ws b h) (λ l. next f l ih)
          (λ l. absurd (let e : count y (tail_rows (suc n) ws b h) ≡ count y [] = ap (count y) (tail_none n h f l) in let z = count_nil y in omega arith))

-- ------------------------------------------------------------------ among the loose rows

module _ (ws : List ℕ) (b : Bool) (payload : ℕ → List ℕ) (held : List ℕ) (rows : (x : ℕ) → 0 < count x held → x < 4096) (ix : Indexed ws (bit b) held) (few : length held ≤ 4096) (one : Unique ws (bit b) held) where
  abbrev chunk : ℕ → Chunk
  chunk x = chunk_at ws b payload x

  abbrev Loose : ℕ → Type 0
  Loose x = 0 < count x (loose_rows ws held)

  abbrev Leads : ℕ → ℕ → Type 0
  Leads x i = LeadsTo ws b payload held rows ix few one x i

  -- the row after row i is loose and goes on its message
  after_goes : (i : ℕ) → row_after ws b i < 4096 → Loose (row_after ws b i) × (goes_on (kind_of b) (chunk i) (chunk (row_after ws b i)) ≡ true)
  after_goes i l = go (next_row ws b payload held rows ix few one i)
    where
      go : NextRow ws b payload held rows ix few one i → Loose (row_after ws b i) × (goes_on (kind_of b) (chunk i) (chunk (row_after ws b i)) ≡ true)
      go (no_row r f) = absurd (omega arith)
      go (a_row j r k c f) =
          subst (λ (y : ℕ). Loose y × (goes_on (kind_of b) (chunk i) (chunk y) ≡ true)) (sym r) (c, first_passes (λ (d : Chunk). goes_on (kind_of b) (chunk i) d) (map chunk (loose_rows ws held)) (chunk j) f)

  -- and a loose row that goes on its message is the row after it
  goes_after : (i j : ℕ) → Loose j → goes_on (kind_of b) (chunk i) (chunk j) ≡ true → row_after ws b i ≡ j
  goes_after i j c g = go (next_row ws b payload held rows ix few one i)
    where
      searched : Search chunk (λ (d : Chunk). goes_on (kind_of b) (chunk i) d) (loose_rows ws held) → first_with (λ (d : Chunk). goes_on (kind_of b) (chunk i) d) (map chunk (loose_rows ws held)) ≡ none → ⊥
      searched (hit x f t h) e = none≢some e f
      searched (miss f n) e = true≢false g (n j c)

      key : (x : ℕ) → Loose x → goes_on (kind_of b) (chunk i) (chunk x) ≡ true → (0 < count x held) × (Rattle.receiver_words.specs.Index.same_key_words (bit b) (fragment_at ws x) (following (fragment_at ws i)) ≡ true)
      key x h t = ((loose_held ws held x h).0, goes_key b (fragment_at ws i) (fragment_at ws x) (payload i) (payload x) t)

      go : NextRow ws b payload held rows ix few one i → row_after ws b i ≡ j
      go (no_row r f) = absurd (searched (search_in chunk (λ (d : Chunk). goes_on (kind_of b) (chunk i) d) (loose_rows ws held)) f)
      go (a_row k r l h f) =
          let p = key k h (first_passes (λ (d : Chunk). goes_on (kind_of b) (chunk i) d) (map chunk (loose_rows ws held)) (chunk k) f) in
          let q = key j c g in
          r ∙ one (following (fragment_at ws i)) k j p.0 q.0 p.1 q.1

  pub path_loose : (p h : ℕ) → Loose h → Path ws b p h → Loose (at ws b p h)
  path_loose zero h c t = c
  path_loose (suc p) h c t = (after_goes (at ws b p h) t.2).0

  offset : (p h : ℕ) → Path ws b p h → step_of b (fragment_at ws (at ws b p h)) ≡ (step_of b (fragment_at ws h) + p) % 2 ^ 32
  offset zero h t = let f = step_fits b (fragment_at ws h) (fragment_at_fits ws h) in omega arith
  offset (suc p) h t =
      let ih = offset p h t.0 in
      let s = goes_step b (fragment_at ws (at ws b p h)) (fragment_at ws (at ws b (suc p) h)) (payload (at ws b p h)) (payload (at ws b (suc p) h)) (after_goes (at ws b p h) t.2).1 in
      one_more (step_of b (fragment_at ws h)) p _ _ ih s
    where
      one_more : (a n x y : ℕ) → x ≡ (a + n) % 2 ^ 32 → y ≡ wrap_suc 32 x → y ≡ (a + suc n) % 2 ^ 32
      one_more a n x y e f = omega arith

  -- its rows are different ones, so there are no more steps than rows
  pub few_steps : (p h : ℕ) → Loose h → Path ws b p h → p < 8192 → p < 4096
  few_steps p h c t l =
      let n = at_least (suc p) (λ (q : ℕ). at ws b q h) (loose_rows ws held) apart (λ q k. path_loose q h c (path_take ws b p q h (omega arith) t)) in
      let m = length_keep (λ (x : ℕ). not (is_whole ws x)) held in
      omega arith
    where
      never : (a q r x : ℕ) → q < r → r < 8193 → x ≡ (a + q) % 2 ^ 32 → x ≡ (a + r) % 2 ^ 32 → ⊥
      never a q r x k m e f = omega arith

      apart : (q r : ℕ) → q < r → r < suc p → at ws b q h ≡ at ws b r h → ⊥
      apart q r k m e =
          never (step_of b (fragment_at ws h)) q r (step_of b (fragment_at ws (at ws b q h))) k (omega arith) (offset q h (path_take ws b p q h (omega arith) t))
          (ap (λ (x : ℕ). step_of b (fragment_at ws x)) e ∙ offset r h (path_take ws b p r h (omega arith) t))

  -- the rows of a tail are loose, and each stands once
  pub tail_loose : (n h y : ℕ) → Loose h → 0 < count y (tail_rows n ws b h) → Loose y
  tail_loose n h y c k = let t = tail_steps ws b n h y k in subst (λ (x : ℕ). Loose x) t.is (path_loose (suc t.steps) h c t.path)

  not_back : (p h : ℕ) → p < 8192 → Path ws b (suc p) h → at ws b (suc p) h ≡ h → ⊥
  not_back p h l t e =
      never (step_of b (fragment_at ws h)) p (step_of b (fragment_at ws (at ws b (suc p) h))) (ap (λ (x : ℕ). step_of b (fragment_at ws x)) e) (step_fits b (fragment_at ws h) (fragment_at_fits ws h)) l (offset (suc p) h t)
    where
      never : (a n x : ℕ) → x ≡ a → a < 2 ^ 32 → n < 8192 → x ≡ (a + suc n) % 2 ^ 32 → ⊥
      never a n x f g m s = omega arith

  tail_new : (n h : ℕ) → n ≤ 4096 → count h (tail_rows n ws b h) ≡ 0
  tail_new n h l = elim (compare_same (count h (tail_rows n ws b h)) 0) [
    | equal z ↦ z
    | other d ↦ (let t = tail_steps ws b n h h (omega arith) in let k = t.below in absurd (not_back t.steps h (omega arith) t.path t.is))
  ]

  pub tail_once : (n h : ℕ) → n ≤ 4096 → (y : ℕ) → count y (h ∷ tail_rows n ws b h) ≤ 1
  unfolding tail_rows
  tail_once zero h l y = let z = count_nil y in elim (compare_same h y) [
    | equal s ↦ (let a = count_here y h [] s in omega arith)
    | other d ↦ (let a = count_there y h [] d in omega arith)
  ]
  tail_once (suc n) h l y = elim (compare_same h y) [
    | equal s ↦ (let a = count_here y h (tail_rows (suc n) ws b h) s in let z : count y (tail_rows (suc n) ws b h) ≡ 0 = ap (λ (x : ℕ). count x (tail_rows (suc n) ws b h)) (sym s) ∙ tail_new (suc n) h l in omega arith)
    | other d ↦ (let a = count_there y h (tail_rows (suc n) ws b h) d in let k = go (value (fragment_at ws h).last) (tail_once n (row_after ws b h) (omega arith) y) in omega arith)
  ]
    where
      more : (fragment_at ws h).last ≡ false → row_after ws b h < 4096 → count y (row_after ws b h ∷ tail_rows n ws b (row_after ws b h)) ≤ 1 → count y (tail_rows (suc n) ws b h) ≤ 1
      more f k ih = let e = ap (count y) (tail_next ws b n h f k) in omega arith

      go : Value (fragment_at ws h).last → count y (row_after ws b h ∷ tail_rows n ws b (row_after ws b h)) ≤ 1 → count y (tail_rows (suc n) ws b h) ≤ 1
      go (yes_is f) ih = let e = ap (count y) (tail_last ws b n h f) in let z = count_nil y in omega arith
      go (no_is f) ih = by_row (row_after ws b h) (λ k. more f k ih) (λ k. let e = ap (count y) (tail_none ws b n h f k) in let z = count_nil y in omega arith)

  -- a message of that many steps is reached in 4,096 turns
  pub reaches : (n i : ℕ) → Loose i → n ≤ 8192 → Ends ws b n i → reaches_last 4096 ws b i ≡ true
  reaches n i c l t = let k = t.below in ends_reach ws b t.steps 4096 i (few_steps t.steps i c t.path (omega arith)) t.path t.marked

  -- ---------------------------------------------------------------- back to the first row

  -- one step back from the end of a path
  leads : (p h : ℕ) → Loose h → Path ws b (suc p) h → Leads (at ws b p h) (at ws b (suc p) h)
  leads p h c t = record { loose = path_loose p h c t.0; not_last = t.1; on = (after_goes (at ws b p h) t.2).1 }

  back_one : (p h : ℕ) → Loose h → Path ws b (suc p) h → row_before_words ws b (at ws b (suc p) h) ≡ at ws b p h
  back_one p h c t = go (row_before ws b payload held rows ix few one (at ws b (suc p) h))
    where
      go : RowBefore ws b payload held rows ix few one (at ws b (suc p) h) → row_before_words ws b (at ws b (suc p) h) ≡ at ws b p h
      go (none_before r n) = absurd (n (at ws b p h) (leads p h c t))
      go (one_before j r l k only) = r ∙ sym (only (at ws b p h) (leads p h c t))

  module _ (n i : ℕ) where
    first_here : begins_with b (fragment_at ws i) ≡ true → first_row (suc n) ws b i ≡ i
    unfolding first_row
    first_here e = rw e

    first_back : begins_with b (fragment_at ws i) ≡ false → row_before_words ws b i < 4096 → first_row (suc n) ws b i ≡ first_row n ws b (row_before_words ws b i)
    unfolding first_row
    first_back e l = rw (e, lt-leb _ _ l)

    first_none : begins_with b (fragment_at ws i) ≡ false → 4096 ≤ row_before_words ws b i → first_row (suc n) ws b i ≡ 4096
    unfolding first_row
    first_none e l = rw (e, le-leb _ _ l)

  loose_row : (x : ℕ) → Loose x → x < 4096
  loose_row x c = rows x (loose_held ws held x c).0

  -- from the end of a path the first row is found
  pub back_first : (p n h : ℕ) → Loose h → begins_with b (fragment_at ws h) ≡ true → Path ws b p h → p < 8192 → p < n → first_row n ws b (at ws b p h) ≡ h
  back_first p zero h c e t m l = absurd (omega arith)
  back_first zero (suc n) h c e t m l = first_here n h e
  back_first (suc p) (suc n) h c e t m l =
      let g = (after_goes (at ws b p h) t.2).1 in
      let r = back_one p h c t in
      let x = loose_row (at ws b p h) (path_loose p h c t.0) in
      first_back n (at ws b (suc p) h)
      (later_begins b (fragment_at ws (at ws b p h)) (fragment_at ws (at ws b (suc p) h)) (fragment_at ws h) (payload (at ws b p h)) (payload (at ws b (suc p) h)) p g e (offset (suc p) h t) (omega arith))
      (omega arith)
      ∙ ap (first_row n ws b) r
      ∙ back_first p n h c e t.0 (omega arith) (omega arith)

  -- where the first row is found, a path leads from it
  pub record Origin (n i h : ℕ) : Type 0 where
    pub steps : ℕ
    pub below : steps < n
    pub path : Path ws b steps h
    pub is : at ws b steps h ≡ i
    pub loose : Loose h
    pub starts : begins_with b (fragment_at ws h) ≡ true

  pub data FirstRow (n i : ℕ) : Type 0 where
    no_first : first_row n ws b i ≡ 4096 → FirstRow n i
    a_first : (h : ℕ) → first_row n ws b i ≡ h → Origin n i h → FirstRow n i

  pub first_row_lem : (n i : ℕ) → Loose i → FirstRow n i
  unfolding first_row
  first_row_lem zero i c = no_first refl
  first_row_lem (suc n) i c = go (value (begins_with b (fragment_at ws i))) (row_before ws b payload held rows ix few one i) (λ j d. first_row_lem n j d)
    where
      one_more : (h j : ℕ) → Leads j i → Origin n j h → Origin (suc n) i h
      one_more h j t o =
          let k = o.below in
          let e : at ws b (suc o.steps) h ≡ i = ap (row_after ws b) o.is ∙ goes_after j i c t.on in
          let l = loose_row i c in
          record {
            steps = suc o.steps;
            below = omega arith;
            path = (o.path, ap (λ (x : ℕ). (fragment_at ws x).last) o.is ∙ t.not_last, omega arith);
            is = e;
            loose = o.loose;
            starts = o.starts;
          }

      found : begins_with b (fragment_at ws i) ≡ false → (j : ℕ) → row_before_words ws b i ≡ j → j < 4096 → Leads j i → FirstRow n j → FirstRow (suc n) i
      found e j r l t (no_first f) = no_first (first_back n i e (omega arith) ∙ ap (first_row n ws b) r ∙ f)
      found e j r l t (a_first h f o) = a_first h (first_back n i e (omega arith) ∙ ap (first_row n ws b) r ∙ f) (one_more h j t o)

      go : Value (begins_with b (fragment_at ws i)) → RowBefore ws b payload held rows ix few one i → ((j : ℕ) → Loose j → FirstRow n j) → FirstRow (suc n) i
      go (yes_is e) r ih = a_first i (first_here n i e) (record { steps = 0; below = omega arith; path = tt; is = refl; loose = c; starts = e })
      go (no_is e) (none_before r m) ih = no_first (first_none n i e (omega arith))
      go (no_is e) (one_before j r l t only) ih = found e j r l t (ih j t.loose)
