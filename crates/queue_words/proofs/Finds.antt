-- The laws of the search for a stream: it finds the one row that has the id, and else the gap where the id belongs. Assumes nothing.
use mathlib.Core.Path.{◌≡◌, refl, sym, ap, subst, ◌∙◌}
use mathlib.Core.Bool.{Bool, true, false}
use mathlib.Core.List.{List}
use Prim.Native.Nat.{ℕ, zero, suc, ◌+◌, ◌-◌, ◌/◌, ◌≤◌, ◌<◌}
use native.Mathlib.Omega.{arith, ne_cases}
use borrow.Author.Tests.{lt-ltb, le-ltb, eq-eqb, ne_eqb, ltb-true, ltb-false, eqb-true, eqb-false}
use lib.Dec.{ltb, eqb}
use Rattle.queue_words.specs.declared.header.Totals.{Totals}
use Rattle.queue_words.specs.declared.known.Known.{Known}
use Rattle.queue_words.specs.declared.known.Probe.{Probe}
use Rattle.queue_words.specs.declared.known.Found.{Found}
use Rattle.queue_words.specs.declared.known.Found.TheVariants.{At, Gap, Broken}
use Rattle.queue_words.specs.declared.known.Spot.{Spot}
use Rattle.queue_words.specs.declared.known.Spot.TheVariants as spot
use Rattle.queue_words.specs.Flags.{pick}
use Rattle.queue_words.specs.Header.{totals_at}
use Rattle.queue_words.specs.Known.{known_at, id_at, known_count, Rising, RisingKnown}
use Rattle.queue_words.specs.Find.{probed, all, probes, found_at, position_of, found_among, find_stream_words, place_tested, found_by, Findable, is_found, is_known}

-- what holds of both choices holds of the one that is picked
by_pick : {A : Type 0} (P : A → Type 0) (b : Bool) {x y : A} → (b ≡ true → P x) → (b ≡ false → P y) → P (pick b x y)
by_pick P true f g = f refl
by_pick P false f g = g refl

pub by_lt : {G : Type 0} (a b : ℕ) → (a < b → G) → (b ≤ a → G) → G
by_lt {G} a b f g = go (ltb a b) refl
  where
    go : (t : Bool) → ltb a b ≡ t → G
    go true e = f (ltb-true a b e)
    go false e = g (ltb-false a b e)

-- the same where only the second choice is looked into
pick_else : {A : Type 0} (b : Bool) (x : A) {y z : A} → (b ≡ false → y ≡ z) → pick b x y ≡ pick b x z
pick_else true x e = refl
pick_else false x e = e refl

-- Between two steps of a search among n rows: the rows before low are smaller, those behind the positions left are not.
record Probing (ws : List ℕ) (id n : ℕ) (p : Probe) : Type 0 where
  within : p.low + p.size ≤ n
  below : Rising ws n → (j : ℕ) → j < p.low → id_at ws j < id
  above : Rising ws n → (j : ℕ) → p.low + p.size ≤ j → j < n → id ≤ id_at ws j

-- one look at the middle position m, by what stands there
module _ (ws : List ℕ) (id n : ℕ) (p : Probe) (m : ℕ) (g : Probing ws id n p) (mid : m ≡ p.low + p.size / 2) (some : p.size ≡ 0 → ⊥) where
  look_after : id_at ws m < id → Probing ws id n (record { low = m + 1; size = p.size - p.size / 2 - 1 })
  look_after lt = record {
    within = omega (arith, g.within);
    below = λ r j h. by_lt j m
        (λ l. omega (arith, r j m l (omega (arith, g.within))))
        (λ l. let e : m ≡ j = omega arith in subst (λ x. id_at ws x < id) e lt);
    above = λ r j h k. g.above r j (omega arith) k;
  }

  look_before : id ≤ id_at ws m → Probing ws id n (record { low = p.low; size = p.size / 2 })
  look_before le = record {
    within = omega (arith, g.within);
    below = g.below;
    above = λ r j h k. by_lt m j
        (λ l. omega (arith, r m j l k))
        (λ l. let e : m ≡ j = omega arith in subst (λ x. id ≤ id_at ws x) e le);
  }

-- one step, and all of them
step : (ws : List ℕ) (id n : ℕ) (p : Probe) → (p.size ≡ 0 → ⊥) → Probing ws id n p → Probing ws id n (probed ws id p)
unfolding probed
step ws id n p some g = by_pick (Probing ws id n) (ltb (id_at ws (p.low + p.size / 2)) id)
    (λ e. look_after ws id n p (p.low + p.size / 2) g refl some (ltb-true _ _ e))
    (λ e. look_before ws id n p (p.low + p.size / 2) g refl some (ltb-false _ _ e))

pub shrinks : (ws : List ℕ) (id : ℕ) (p : Probe) → (p.size ≡ 0 → ⊥) → (probed ws id p).size < p.size
unfolding probed
shrinks ws id p some = by_pick (λ (x : Probe). x.size < p.size) (ltb (id_at ws (p.low + p.size / 2)) id) (λ e. omega arith) (λ e. omega arith)

steps : (k : ℕ) (ws : List ℕ) (id n : ℕ) (p : Probe) → p.size ≤ k → Probing ws id n p → Probing ws id n (probes ws id k p) × ((probes ws id k p).size ≡ 0)
unfolding probes
steps zero ws id n p h g = (g, omega arith)
steps (suc k) ws id n p h g = by_pick (λ (x : Probe). Probing ws id n x × (x.size ≡ 0)) (eqb p.size 0)
    (λ e. (g, eqb-true _ _ e))
    (λ e. steps k ws id n (probed ws id p) (omega (arith, shrinks ws id p (eqb-false _ _ e))) (step ws id n p (eqb-false _ _ e) g))

-- as many steps as positions are enough, and more change nothing
pub enough : (k l : ℕ) (ws : List ℕ) (id : ℕ) (p : Probe) → p.size ≤ k → p.size ≤ l → probes ws id k p ≡ probes ws id l p
unfolding probes
enough zero zero ws id p a b = refl
enough zero (suc l) ws id p a b = rw (eq-eqb p.size 0 (omega arith))
enough (suc k) zero ws id p a b = rw (eq-eqb p.size 0 (omega arith))
enough (suc k) (suc l) ws id p a b = pick_else (eqb p.size 0) p
    (λ e. let s = shrinks ws id p (eqb-false _ _ e) in enough k l ws id (probed ws id p) (omega (arith, s)) (omega (arith, s)))

-- a step of a search that goes on
taken : (ws : List ℕ) (id : ℕ) (p : Probe) (k : ℕ) → (p.size ≡ 0 → ⊥) → probes ws id (suc k) p ≡ probes ws id k (probed ws id p)
unfolding probes
taken ws id p k some = rw (ne_eqb p.size 0 some)

pub one_more : (ws : List ℕ) (id : ℕ) (p : Probe) → (p.size ≡ 0 → ⊥) → probes ws id p.size p ≡ probes ws id (probed ws id p).size (probed ws id p)
one_more ws id p some =
    let s = shrinks ws id p some in
    enough p.size (suc p.size) ws id p (omega arith) (omega arith)
    ∙ taken ws id p p.size some
    ∙ enough p.size (probed ws id p).size ws id (probed ws id p) (omega (arith, s)) (omega arith)

-- no step is left
pub no_more : (ws : List ℕ) (id : ℕ) (p : Probe) → p.size ≡ 0 → probes ws id p.size p ≡ p
unfolding probes
no_more ws id p e = enough p.size 0 ws id p (omega arith) (omega arith)

-- the positions left lie among those before the step
pub stays_within : (ws : List ℕ) (id n : ℕ) (p : Probe) → (p.size ≡ 0 → ⊥) → p.low + p.size ≤ n → (probed ws id p).low + (probed ws id p).size ≤ n
unfolding probed
stays_within ws id n p some h =
    by_pick (λ (x : Probe). x.low + x.size ≤ n) (ltb (id_at ws (p.low + p.size / 2)) id) (λ e. omega arith) (λ e. omega arith)

-- the position found among n rows
abbrev first : List ℕ → ℕ → ℕ → ℕ
first ws id n = (probes ws id n (all n)).low

record First (ws : List ℕ) (id n p : ℕ) : Type 0 where
  within : p ≤ n
  below : Rising ws n → (j : ℕ) → j < p → id_at ws j < id
  above : Rising ws n → (j : ℕ) → p ≤ j → j < n → id ≤ id_at ws j

first_is : (ws : List ℕ) (id n : ℕ) → First ws id n (first ws id n)
first_is ws id n =
    let a = steps n ws id n (all n) (omega arith) (record { within = omega arith; below = λ r j k. absurd (omega arith); above = λ r j k l. absurd (omega arith) }) in
    record { within = omega (arith, a.0.within); below = a.0.below; above = λ r j h k. a.0.above r j (omega (arith, a.1)) k }

-- what At p q says, whatever the words
pub record Hit (ws : List ℕ) (id p q : ℕ) : Type 0 where
  pub known_fits : known_count ws ≤ 256
  pub among : p < known_count ws
  pub has_id : id_at ws p ≡ id
  pub place_is : (known_at ws p).place ≡ q
  pub place_fits : q < 256

-- what Gap p says, and what it says where the ids rise
pub record Missed (ws : List ℕ) (id p : ℕ) : Type 0 where
  pub known_fits : known_count ws ≤ 256
  pub among : p ≤ known_count ws
  pub below : RisingKnown ws → (j : ℕ) → j < p → id_at ws j < id
  pub above : RisingKnown ws → (j : ℕ) → p ≤ j → j < known_count ws → id < id_at ws j

never_at : {f : Found} {p q : ℕ} → f ≡ Broken → f ≡ At p q → ⊥
never_at a b = let z : ◌≡◌ {A = ℕ} 0 1 = cc in omega arith

never_gap : {f : Found} {p : ℕ} → f ≡ Broken → f ≡ Gap p → ⊥
never_gap a b = let z : ◌≡◌ {A = ℕ} 0 1 = cc in omega arith

never_both : {f : Found} {p q r : ℕ} → f ≡ Gap r → f ≡ At p q → ⊥
never_both a b = let z : ◌≡◌ {A = ℕ} 0 1 = cc in omega arith

module _ (ws : List ℕ) (id : ℕ) where
  pub find_hit : (p q : ℕ) → find_stream_words ws id ≡ At p q → Hit ws id p q
  unfolding find_stream_words
  find_hit p q = by_pick (λ f. f ≡ At p q → Hit ws id p q) (ltb 256 (known_count ws)) (λ h e. absurd (never_at refl e)) (λ h. from (first ws id (known_count ws)) (ltb-false _ _ h))
    where
      found : (x : ℕ) → known_count ws ≤ 256 → x < known_count ws → id_at ws x ≡ id → (known_at ws x).place ≤ 255 → At x (known_at ws x).place ≡ At p q → Hit ws id p q
      found x h k d l e =
          let ep : x ≡ p = cc in
          let eq : (known_at ws x).place ≡ q = cc in
          record {
            known_fits = h;
            among = omega arith;
            has_id = subst (λ y. id_at ws y ≡ id) ep d;
            place_is = subst (λ y. (known_at ws y).place ≡ q) ep eq;
            place_fits = omega arith;
          }

      from : (x : ℕ) → known_count ws ≤ 256 → found_at ws id x ≡ At p q → Hit ws id p q
      from x h = by_pick (λ f. f ≡ At p q → Hit ws id p q) (ltb x (known_count ws))
          (λ k. by_pick (λ f. f ≡ At p q → Hit ws id p q) (eqb (id_at ws x) id)
          (λ d. by_pick (λ f. f ≡ At p q → Hit ws id p q) (ltb 255 (known_at ws x).place) (λ l e. absurd (never_at refl e))
          (λ l e. found x h (ltb-true _ _ k) (eqb-true _ _ d) (ltb-false _ _ l) e))
          (λ d e. absurd (never_both refl e)))
          (λ k e. absurd (never_both refl e))

  pub find_missed : (p : ℕ) → find_stream_words ws id ≡ Gap p → Missed ws id p
  unfolding find_stream_words
  find_missed p = by_pick (λ f. f ≡ Gap p → Missed ws id p) (ltb 256 (known_count ws)) (λ h e. absurd (never_gap refl e)) (λ h. from (first ws id (known_count ws)) (ltb-false _ _ h) (first_is ws id (known_count ws)))
    where
      missed : (x : ℕ) → known_count ws ≤ 256 → First ws id (known_count ws) x → (x < known_count ws → id_at ws x ≡ id → ⊥) → x ≡ p → Missed ws id p
      missed x h g other e = record {
        known_fits = h;
        among = omega (arith, g.within);
        below = λ r j l. g.below r j (omega arith);
        above = λ r j l m. by_lt x j
            (λ k. omega (arith, g.above r x (omega arith) (omega arith), r x j k m))
            (λ k. let d : x ≡ j = omega arith in subst (λ y. id < id_at ws y) d (ne_cases id (id_at ws x) _ (λ f. other (omega arith) (sym f)) (λ f. f) (λ f. absurd (omega (arith, g.above r x (omega arith) (omega arith))))));
      }

      from : (x : ℕ) → known_count ws ≤ 256 → First ws id (known_count ws) x → found_at ws id x ≡ Gap p → Missed ws id p
      from x h g = by_pick (λ f. f ≡ Gap p → Missed ws id p) (ltb x (known_count ws))
          (λ k. by_pick (λ f. f ≡ Gap p → Missed ws id p) (eqb (id_at ws x) id)
          (λ d. by_pick (λ f. f ≡ Gap p → Missed ws id p) (ltb 255 (known_at ws x).place) (λ l e. absurd (never_gap refl e)) (λ l e. absurd (never_both e refl)))
          (λ d e. missed x h g (λ l f. eqb-false _ _ d f) (cc)))
          (λ k e. missed x h g (λ l f. omega (arith, ltb-false x (known_count ws) k)) (cc))

  -- damaged words: too many streams
  pub find_broken : 256 < known_count ws → find_stream_words ws id ≡ Broken
  unfolding find_stream_words
  find_broken h = rw (lt-ltb _ _ h)

-- a row that has the id is the one found
only_first : (ws : List ℕ) (id n p x : ℕ) → Rising ws n → p < n → id_at ws p ≡ id → First ws id n x → x ≡ p
only_first ws id n p x r h e g =
    by_lt x p (λ l. absurd (omega (arith, r x p l h, g.above r x (omega arith) (omega arith))))
    (λ l. by_lt p x (λ l'. absurd (omega (arith, g.below r p l'))) (λ l'. omega arith))

-- a stream that is not known: where it belongs
pub record NotKnown (ws : List ℕ) (id : ℕ) : Type 0 where
  pub at : ℕ
  pub found : find_stream_words ws id ≡ Gap at
  pub missed : Missed ws id at

module _ (ws : List ℕ) (id : ℕ) (r : RisingKnown ws) (fits : known_count ws ≤ 256) where
  the_first : (p : ℕ) → p < known_count ws → id_at ws p ≡ id → first ws id (known_count ws) ≡ p
  the_first p h e = only_first ws id (known_count ws) p (first ws id (known_count ws)) r h e (first_is ws id (known_count ws))

  -- the row that has the id is found, with its place
  pub find_at : (p : ℕ) → p < known_count ws → id_at ws p ≡ id → (known_at ws p).place < 256 → find_stream_words ws id ≡ At p (known_at ws p).place
  unfolding find_stream_words
  find_at p h e k =
      rw (le-ltb 256 (known_count ws) fits, the_first p h e, lt-ltb p (known_count ws) h, eq-eqb (id_at ws p) id e, le-ltb 255 (known_at ws p).place (omega arith))

  -- damaged words: the row that has the id leads to no row of the streams
  pub find_misplaced : (p : ℕ) → p < known_count ws → id_at ws p ≡ id → 255 < (known_at ws p).place → find_stream_words ws id ≡ Broken
  unfolding find_stream_words
  find_misplaced p h e k =
      rw (le-ltb 256 (known_count ws) fits, the_first p h e, lt-ltb p (known_count ws) h, eq-eqb (id_at ws p) id e, lt-ltb 255 (known_at ws p).place k)

-- where no row has the id, the gap is found
pub find_gap : (ws : List ℕ) (id : ℕ) → known_count ws ≤ 256 → ((j : ℕ) → j < known_count ws → id_at ws j ≡ id → ⊥) → NotKnown ws id
unfolding find_stream_words
find_gap ws id fits none = record { at = x; found = gap; missed = find_missed ws id x gap }
  where
    x : ℕ
    x = first ws id (known_count ws)

    gap : find_stream_words ws id ≡ Gap x
    gap = by_lt x (known_count ws)
        (λ k. rw (le-ltb 256 (known_count ws) fits, lt-ltb x (known_count ws) k, ne_eqb (id_at ws x) id (none x k)))
        (λ k. rw (le-ltb 256 (known_count ws) fits, le-ltb x (known_count ws) k))

-- WHAT THE SEARCH READS: the count, and the rows below 256

module _ (ws ls : List ℕ) (id : ℕ) (same : (j : ℕ) → j < 256 → known_at ls j ≡ known_at ws j) where
  probed_same : (p : Probe) → (p.size ≡ 0 → ⊥) → p.low + p.size ≤ 256 → probed ls id p ≡ probed ws id p
  unfolding probed
  probed_same p some h = rw (ap (λ (k : Known). k.id.0) (same (p.low + p.size / 2) (omega arith)))

  probes_same : (k : ℕ) (p : Probe) → p.low + p.size ≤ 256 → probes ls id k p ≡ probes ws id k p
  unfolding probes
  probes_same zero p h = refl
  probes_same (suc k) p h = pick_else (eqb p.size 0) p
      (λ e. ap (probes ls id k) (probed_same p (eqb-false _ _ e) h) ∙ probes_same k (probed ws id p) (stays_within ws id 256 p (eqb-false _ _ e) h))

  found_same : (n x : ℕ) → n ≤ 256 → known_count ls ≡ n → known_count ws ≡ n → found_at ls id x ≡ found_at ws id x
  found_same n x h a b = by_lt x n
      (λ k. let e : known_at ls x ≡ known_at ws x = same x (omega arith) in
      let d : id_at ls x ≡ id_at ws x = ap (λ (y : Known). y.id.0) e in
      rw (a, b, d, e))
      (λ k. rw (a, b, le-ltb x n k))

  pub find_same : known_count ls ≡ known_count ws → find_stream_words ls id ≡ find_stream_words ws id
  unfolding find_stream_words
  find_same e = ap (λ n. pick (ltb 256 n) Broken (found_at ls id (probes ls id n (all n)).low)) e ∙ pick_else (ltb 256 (known_count ws)) Broken
      (λ f. let h : known_count ws ≤ 256 = ltb-false 256 (known_count ws) f in
      found_same (known_count ws) (probes ls id (known_count ws) (all (known_count ws))).low h e refl ∙ ap (λ (x : Probe). found_at ws id x.low) (probes_same (known_count ws) (all (known_count ws)) (omega arith)))

-- the order of the known streams is read from the same words
pub rising_same : (ws ls : List ℕ) → ((j : ℕ) → j < 256 → known_at ls j ≡ known_at ws j) → known_count ls ≡ known_count ws → known_count ws ≤ 256
    → RisingKnown ws → RisingKnown ls
rising_same ws ls same e fits r i j h k =
    let a : id_at ls i ≡ id_at ws i = ap (λ (x : Known). x.id.0) (same i (omega arith)) in
    let b : id_at ls j ≡ id_at ws j = ap (λ (x : Known). x.id.0) (same j (omega arith)) in
    omega (arith, r i j h (omega arith))

-- THE SEARCH AFTER A STORE ELSEWHERE

-- ------------------------------------------------------------------ the search without its tests

pub among_is : (ws : List ℕ) (id : ℕ) → known_count ws ≤ 256 → found_among ws id ≡ find_stream_words ws id
unfolding find_stream_words
among_is ws id h = rw (le-ltb 256 (known_count ws) h)

pub findable_known : (ws : List ℕ) (id : ℕ) → Findable ws id → known_count ws ≤ 256
findable_known ws id f = by_lt 256 (known_count ws) (λ h. absurd (f (find_broken ws id h))) (λ h. h)

-- the test of the place
pub place_broken : (p q : ℕ) → 255 < q → place_tested (spot.At p q) ≡ Broken
place_broken p q h = rw (lt-ltb 255 q h)

pub place_kept : (p q : ℕ) → q ≤ 255 → place_tested (spot.At p q) ≡ At p q
place_kept p q h = rw (le-ltb 255 q h)

-- where the tests cannot fail, what is sought is found
pub own_found : (ws : List ℕ) (id : ℕ) (s : Spot) → Findable ws id → place_tested s ≡ found_among ws id → found_by s ≡ find_stream_words ws id
own_found ws id (spot.At p q) f e =
    let is : place_tested (spot.At p q) ≡ find_stream_words ws id = e ∙ among_is ws id (findable_known ws id f) in
    by_lt 255 q (λ h. absurd (f (sym is ∙ place_broken p q h))) (λ h. sym (place_kept p q h) ∙ is)
own_found ws id (spot.Gap p) f e = e ∙ among_is ws id (findable_known ws id f)

-- A stream that is known stands where the search ends.
pub record StandsAt (ws : List ℕ) (id : ℕ) : Type 0 where
  pub few : known_count ws ≤ 256
  pub among : position_of ws id < known_count ws
  pub found_there : At (position_of ws id) (known_at ws (position_of ws id)).place ≡ find_stream_words ws id

pub stands_at : (ws : List ℕ) (id : ℕ) → is_known ws id ≡ true → StandsAt ws id
unfolding find_stream_words
stands_at ws id h = by (ltb 256 (known_count ws)) refl (ltb at (known_count ws)) refl (eqb (id_at ws at) id) refl (ltb 255 row) refl h
  where
    at : ℕ
    at = position_of ws id

    row : ℕ
    row = (known_at ws at).place

    no : {G : Type 0} → false ≡ true → G
    no e = absurd (let z : ◌≡◌ {A = ℕ} 0 1 = cc in omega arith)

    by : (a : Bool) → ltb 256 (known_count ws) ≡ a → (b : Bool) → ltb at (known_count ws) ≡ b → (c : Bool) → eqb (id_at ws at) id ≡ c → (d : Bool) → ltb 255 row ≡ d
        → is_found (pick a Broken (pick b (pick c (pick d Broken (At at row)) (Gap at)) (Gap at))) ≡ true → StandsAt ws id
    by true ea b eb c ec d ed e = no e
    by false ea false eb c ec d ed e = no e
    by false ea true eb false ec d ed e = no e
    by false ea true eb true ec true ed e = no e
    by false ea true eb true ec false ed e =
        record { few = ltb-false 256 (known_count ws) ea; among = ltb-true at (known_count ws) eb; found_there = rw (ea, eb, ec, ed) }

-- The steps of the search for it, over plain values.
module _ (ws : List ℕ) (id : ℕ) (h : is_known ws id ≡ true) (t : Totals) (et : t ≡ totals_at ws) where
  pub known_few : t.known ≤ 256
  known_few = rw et (stands_at ws id h).few

  module _ (p : Probe) (ep : p ≡ probes ws id t.known (all t.known)) where
    ends_at : p.low ≡ position_of ws id
    ends_at = rw (ep, et)

    pub known_among : p.low < 256
    known_among = let s = stands_at ws id h in omega (arith, ends_at, s.few, s.among)

    pub known_row : (k : Known) → k ≡ known_at ws p.low → At (position_of ws id) k.place ≡ find_stream_words ws id
    known_row k ek = rw (ek, ends_at) (stands_at ws id h).found_there
