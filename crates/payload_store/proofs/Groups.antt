-- The row that is moved next, by groups of rows: the best of the groups' least rows is the least row of all, and what is kept of a group holds while its
-- row lies at or above the cursor. Assumes nothing.
use mathlib.Core.Path.{◌≡◌, refl, sym, ap, ◌∙◌}
use mathlib.Core.Logic.{inl, inr, ⊎_elim}
use mathlib.Core.List.{List}
use Prim.Native.Nat.{ℕ, zero, suc, ◌+◌, ◌-◌, ◌*◌, ◌/◌, ◌≤◌, ◌<◌}
use native.Mathlib.Omega.{arith}
use borrow.Author.Tests.{lt-ltb, le-ltb, le-leb, lt-leb}
use lib.ListN.{length, get_or, set, replicate, length-set, length-replicate, get_or-replicate}
use lib.Seq.{get_or-set_same, get_or-set_other}
use Rattle.queue_words.specs.Items.{put_place}
use Rattle.payload_store.specs.Words.{place_of, size_of}
use Rattle.payload_store.specs.Moving.{choose, least, least_in, better, Hint, Hints, Exact}
use Rattle.payload_store.proofs.Cases.{by_index}
use Rattle.payload_store.proofs.Laws.{place_other, place_size}
use Rattle.payload_store.proofs.Choice.{choose_dead, choose_low, choose_new, choose_less, choose_more}
use Rattle.queue_words.proofs.Finds.{by_lt}

module _ (ws : List ℕ) (b c : ℕ) where
  better_left : 1024 ≤ c → better ws b c ≡ b
  unfolding better
  better_left h = rw (le-leb 1024 c h)

  better_right : c < 1024 → 1024 ≤ b → better ws b c ≡ c
  unfolding better
  better_right h k = rw (lt-leb 1024 c h, le-leb 1024 b k)

  better_less : c < 1024 → b < 1024 → place_of ws c < place_of ws b → better ws b c ≡ c
  unfolding better
  better_less h k l = rw (lt-leb 1024 c h, lt-leb 1024 b k, lt-ltb (place_of ws c) (place_of ws b) l)

  better_more : c < 1024 → b < 1024 → place_of ws b ≤ place_of ws c → better ws b c ≡ b
  unfolding better
  better_more h k l = rw (lt-leb 1024 c h, lt-leb 1024 b k, le-ltb (place_of ws c) (place_of ws b) l)

-- a row that may be moved is compared as `better` compares
choose_better : (ws : List ℕ) (cur b i : ℕ) → i < 1024 → (size_of ws i ≡ 0 → ⊥) → cur ≤ place_of ws i → choose ws cur b i ≡ better ws b i
choose_better ws cur b i h n l = by_lt b 1024
    (λ k. by_lt (place_of ws i) (place_of ws b)
    (λ q. choose_less ws cur b i n l k q ∙ sym (better_less ws b i h k q))
    (λ q. choose_more ws cur b i n l k q ∙ sym (better_more ws b i h k q)))
    (λ k. choose_new ws cur b i n l k ∙ sym (better_right ws b i h k))

better_assoc : (ws : List ℕ) (p q i : ℕ) → i < 1024 → better ws (better ws p q) i ≡ better ws p (better ws q i)
better_assoc ws p q i h = by_lt q 1024
    (λ hq. by_lt p 1024
    (λ hp. by_lt (place_of ws q) (place_of ws p)
    (λ a. rw (better_less ws p q hq hp a) (by_lt (place_of ws i) (place_of ws q)
    (λ b. rw (better_less ws q i h hq b) (sym (better_less ws p i h hp (omega arith))))
    (λ b. rw (better_more ws q i h hq b) (sym (better_less ws p q hq hp a)))))
    (λ a. rw (better_more ws p q hq hp a) (by_lt (place_of ws i) (place_of ws q)
    (λ b. rw (better_less ws q i h hq b) refl)
    (λ b. rw (better_more ws q i h hq b) (better_more ws p i h hp (omega arith) ∙ sym (better_more ws p q hq hp a))))))
    (λ hp. rw (better_right ws p q hq hp) (by_lt (place_of ws i) (place_of ws q)
    (λ b. rw (better_less ws q i h hq b) (sym (better_right ws p i h hp)))
    (λ b. rw (better_more ws q i h hq b) (sym (better_right ws p q hq hp))))))
    (λ hq. rw (better_left ws p q hq, better_right ws q i h hq) refl)

choose_inside : (ws : List ℕ) (cur p q i : ℕ) → i < 1024 → choose ws cur (better ws p q) i ≡ better ws p (choose ws cur q i)
choose_inside ws cur p q i h = by_index (size_of ws i) 0
    (λ e. rw (choose_dead ws cur (better ws p q) i e, choose_dead ws cur q i e) refl)
    (λ ne. by_lt (place_of ws i) cur
    (λ l. rw (choose_low ws cur (better ws p q) i ne l, choose_low ws cur q i ne l) refl)
    (λ l. rw (choose_better ws cur (better ws p q) i h ne l, choose_better ws cur q i h ne l) (better_assoc ws p q i h)))

-- the rows up to a, and n more
pub least_join : (ws : List ℕ) (cur a n : ℕ) → a + n ≤ 1024 → least ws cur (a + n) ≡ better ws (least ws cur a) (least_in ws cur a n)
unfolding least least_in
least_join ws cur a zero h = let z : a + 0 ≡ a = omega arith in ap (least ws cur) z ∙ sym (better_left ws (least ws cur a) 1024 (omega arith))
least_join ws cur a (suc n) h =
    let z : a + suc n ≡ suc (a + n) = omega arith in
    ap (least ws cur) z
    ∙ (ap (λ x. choose ws cur x (a + n)) (least_join ws cur a n (omega arith))
    ∙ choose_inside ws cur (least ws cur a) (least_in ws cur a n) (a + n) (omega arith))

-- one turn of least_in
pub in_on : (ws : List ℕ) (cur a i b c : ℕ) → a ≤ i → b ≡ least_in ws cur a (i - a) → c ≡ choose ws cur b i → c ≡ least_in ws cur a (i + 1 - a)
unfolding least_in
in_on ws cur a i b c l eb ec =
    let s : i + 1 - a ≡ suc (i - a) = omega arith in
    let z : a + (i - a) ≡ i = omega arith in
    ec ∙ rw (s, z, eb)

-- a group's least row is one of the group
abbrev Within : ℕ → ℕ → ℕ → Type 0
Within a n b = b < 1024 → (a ≤ b) × (b < a + n)

within : (ws : List ℕ) (cur a n : ℕ) → Within a n (least_in ws cur a n)
unfolding least_in
within ws cur a zero = λ h. absurd (omega arith)
within ws cur a (suc n) =
    let b = least_in ws cur a n in
    let stay : Within a (suc n) b = λ h. ((within ws cur a n h).0, omega (arith, (within ws cur a n h).1)) in
    let new : Within a (suc n) (a + n) = λ h. (omega arith, omega arith) in
    by_index (size_of ws (a + n)) 0
    (λ e. rw (choose_dead ws cur b (a + n) e) stay)
    (λ ne. by_lt (place_of ws (a + n)) cur
    (λ l. rw (choose_low ws cur b (a + n) ne l) stay)
    (λ l. by_lt b 1024
    (λ k. by_lt (place_of ws (a + n)) (place_of ws b)
    (λ q. rw (choose_less ws cur b (a + n) ne l k q) new)
    (λ q. rw (choose_more ws cur b (a + n) ne l k q) stay))
    (λ k. rw (choose_new ws cur b (a + n) ne l k) new)))

-- the least row of a group stays that while its rows are the same and it lies at or above the cursor
module _ (ws ws' : List ℕ) (cur cur' : ℕ) (up : cur ≤ cur') (sizes : (j : ℕ) → size_of ws' j ≡ size_of ws j) where
  raise : (a n : ℕ) → a + n ≤ 1024 → ((j : ℕ) → a ≤ j → j < a + n → place_of ws' j ≡ place_of ws j)
      → (least_in ws cur a n < 1024 → cur' ≤ place_of ws (least_in ws cur a n)) → least_in ws' cur' a n ≡ least_in ws cur a n
  unfolding least_in
  raise a zero h same high = refl
  raise a (suc n) h same high =
      let q = least_in ws cur a n in
      let i = a + n in
      let near : (j : ℕ) → a ≤ j → j < a + n → place_of ws' j ≡ place_of ws j = λ j x y. same j x (omega arith) in
      let on : (q < 1024 → cur' ≤ place_of ws q) → choose ws' cur' (least_in ws' cur' a n) i ≡ choose ws' cur' q i =
      λ f. ap (λ y. choose ws' cur' y i) (raise a n (omega arith) near f) in
      let pi : place_of ws' i ≡ place_of ws i = same i (omega arith) (omega arith) in
      let si : size_of ws' i ≡ size_of ws i = sizes i in
      by_index (size_of ws i) 0
      (λ e. let c = choose_dead ws cur q i e in
      on (rw c at high) ∙ (choose_dead ws' cur' q i (si ∙ e) ∙ sym c))
      (λ ne. let ne' : size_of ws' i ≡ 0 → ⊥ = λ z. ne (sym si ∙ z) in
      by_lt (place_of ws i) cur
      (λ l. let c = choose_low ws cur q i ne l in
      on (rw c at high) ∙ (choose_low ws' cur' q i ne' (omega arith) ∙ sym c))
      (λ l. by_lt q 1024
      (λ k. let pq : place_of ws' q ≡ place_of ws q = near q (within ws cur a n k).0 (within ws cur a n k).1 in
      by_lt (place_of ws i) (place_of ws q)
      (λ x. let c = choose_less ws cur q i ne l k x in
      let hi : cur' ≤ place_of ws i = (rw c at high) (omega arith) in
      on (λ z. omega arith) ∙ (choose_less ws' cur' q i ne' (omega arith) k (omega arith) ∙ sym c))
      (λ x. let c = choose_more ws cur q i ne l k x in
      let hq : cur' ≤ place_of ws q = (rw c at high) k in
      on (λ z. hq) ∙ (choose_more ws' cur' q i ne' (omega arith) k (omega arith) ∙ sym c)))
      (λ k. let c = choose_new ws cur q i ne l k in
      let hi : cur' ≤ place_of ws i = (rw c at high) (omega arith) in
      on (λ z. absurd (omega arith)) ∙ (choose_new ws' cur' q i ne' (omega arith) k ∙ sym c))))

-- at first nothing is kept
pub hints_start : (ws ks : List ℕ) → ks ≡ replicate 32 1025 → Hints ws 0 ks
hints_start ws ks e = rw e (record { long = length-replicate {A = ℕ} 32 1025; each = λ g h. inl (rw (get_or-replicate {A = ℕ} 32 g 1025 0 h) (omega arith)) })

-- after row r's payload was moved down to the cursor
module _ (ws ks : List ℕ) (cur r n : ℕ) (l : length ws ≡ 20768) (h : r < 1024) (x : Exact ws cur 32 ks) where
  abbrev ws' : List ℕ
  ws' = put_place ws r cur

  -- of a group in which row r is not
  hint_other : (g : ℕ) → g < 32 → (r / 32 ≡ g → ⊥) → Hint ws' (cur + n) g (get_or ks g 0)
  hint_other g hg ng =
      let b = get_or ks g 0 in
      let e = x.each g hg in
      let out : (j : ℕ) → g * 32 ≤ j → j < g * 32 + 32 → place_of ws' j ≡ place_of ws j = λ j y z. place_other ws r cur j (λ q. ng (omega arith)) in
      let stays : (b < 1024 → cur + n ≤ place_of ws b) → Hint ws' (cur + n) g b =
      λ f. inr (inr (raise ws ws' cur (cur + n) (omega arith) (place_size ws r cur) (g * 32) 32 (omega arith) out (rw e f) ∙ e)) in
      by_lt b 1024
      (λ k. let w = (rw e at (within ws cur (g * 32) 32)) k in
      let p : place_of ws' b ≡ place_of ws b = out b w.0 w.1 in
      by_lt (place_of ws b) (cur + n)
      (λ y. inr (inl (k, omega arith)))
      (λ y. stays (λ z. y)))
      (λ k. stays (λ z. absurd (omega arith)))

  pub hints_on : Hints ws' (cur + n) (set ks (r / 32) 1025)
  hints_on = record {
    long = length-set ks (r / 32) 1025 ∙ x.long;
    each = λ g hg. by_index (r / 32) g
        (λ e. inl (rw (← e, get_or-set_same ks (r / 32) 1025 0 (omega (arith, x.long))) (omega arith)))
        (λ ne. rw (get_or-set_other ks (r / 32) g 1025 0 (λ z. ne (sym z))) (hint_other g hg ne));
  }

pub hints_moved : (ws ws' ks : List ℕ) (cur r n : ℕ) → length ws ≡ 20768 → r < 1024 → Exact ws cur 32 ks → ws' ≡ put_place ws r cur → Hints ws' (cur + n) (set ks (r / 32) 1025)
hints_moved ws ws' ks cur r n l h x e = rw e (hints_on ws ks cur r n l h x)

-- the steps of next_row
pub record Seeking (ws : List ℕ) (cur g best : ℕ) (ks : List ℕ) : Type 0 where
  pub long : length ks ≡ 32
  pub best_is : best ≡ least ws cur (g * 32)
  pub done : (j : ℕ) → j < g → least_in ws cur (j * 32) 32 ≡ get_or ks j 0
  pub rest : (j : ℕ) → g ≤ j → j < 32 → Hint ws cur j (get_or ks j 0)

pub seeking_start : (ws ks : List ℕ) (cur : ℕ) → Hints ws cur ks → Seeking ws cur 0 1024 ks
unfolding least
seeking_start ws ks cur h = record { long = h.long; best_is = refl; done = λ j l. absurd (omega arith); rest = λ j l k. h.each j k }

pub seeking_on : (ws ks : List ℕ) (cur g best b c : ℕ) → g < 32 → Seeking ws cur g best ks → b ≡ least_in ws cur (g * 32) 32 → c ≡ better ws best b
    → Seeking ws cur (g + 1) c (set ks g b)
seeking_on ws ks cur g best b c hg s eb ec =
    let z : (g + 1) * 32 ≡ g * 32 + 32 = omega arith in
    record {
      long = length-set ks g b ∙ s.long;
      best_is = rw z (ec ∙ (rw (s.best_is, eb) (sym (least_join ws cur (g * 32) 32 (omega arith)))));
      done = λ j l. by_index g j
          (λ e. rw (← e, get_or-set_same ks g b 0 (omega (arith, s.long))) (sym eb))
          (λ ne. rw (get_or-set_other ks g j b 0 (λ y. ne (sym y))) (s.done j (omega arith)));
      rest = λ j l k. rw (get_or-set_other ks g j b 0 (λ y. omega arith)) (s.rest j (omega arith) k);
    }

pub seeking_end : (ws ks : List ℕ) (cur g best : ℕ) → g ≡ 32 → Seeking ws cur g best ks → (best ≡ least ws cur 1024) × Exact ws cur 32 ks
seeking_end ws ks cur g best e s =
    let z : g * 32 ≡ 1024 = omega arith in
    (s.best_is ∙ ap (least ws cur) z, record { long = s.long; each = λ j l. s.done j (omega arith) })

-- the ways out of renewed
module _ (ws : List ℕ) (cur g b : ℕ) (t : Hint ws cur g b) where
  pub kept_none : (1024 < b → ⊥) → b ≡ 1024 → b ≡ least_in ws cur (g * 32) 32
  kept_none n e = ⊎_elim (λ x. absurd (n x)) (λ y. ⊎_elim (λ x. absurd (omega (arith, x.0))) (λ x. sym x) y) t

  pub kept_row : (1024 < b → ⊥) → (place_of ws b < cur → ⊥) → b ≡ least_in ws cur (g * 32) 32
  kept_row n m = ⊎_elim (λ x. absurd (n x)) (λ y. ⊎_elim (λ x. absurd (m x.1)) (λ x. sym x) y) t
