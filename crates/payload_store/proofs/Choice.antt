-- The row that is moved next, and one turn. Assumes nothing.
use mathlib.Core.Path.{◌≡◌, refl, sym, ap, ◌∙◌}
use mathlib.Core.Bool.{Bool, true, false}
use mathlib.Core.List.{List}
use Prim.Native.Nat.{ℕ, zero, suc, ◌+◌, ◌-◌, ◌≤◌, ◌<◌}
use native.Mathlib.Omega.{arith}
use native.Mathlib.Numerals.{add-one}
use borrow.Author.Tests.{lt-ltb, le-ltb, le-leb, lt-leb, eq-eqb, ne_eqb}
use lib.ListN.{length}
use Rattle.queue_words.specs.Items.{put_place}
use Rattle.payload_store.specs.Words.{place_of, size_of}
use Rattle.payload_store.specs.Moving.{choose, least, moved, Pack, pack, turn_at, turn, turns, together}
use Rattle.payload_store.specs.Searching.{lies}
use Rattle.payload_store.proofs.Cases.{by_index}
use Rattle.payload_store.proofs.Found.{lies_yes, lies_in}
use Rattle.payload_store.proofs.Moves.{moved_length}
use Rattle.payload_store.proofs.Laws.{place_length, place_same, place_other, place_size}
use Rattle.queue_words.proofs.Finds.{by_lt}

-- b is the first among the first n rows; b ≥ 1024: there is none
pub record Least (ws : List ℕ) (cur n b : ℕ) : Type 0 where
  pub live : b < 1024 → 1 ≤ size_of ws b
  pub above : b < 1024 → cur ≤ place_of ws b
  pub some : (j : ℕ) → j < n → 1 ≤ size_of ws j → cur ≤ place_of ws j → b < 1024
  pub first : (j : ℕ) → j < n → 1 ≤ size_of ws j → cur ≤ place_of ws j → place_of ws b ≤ place_of ws j

module _ (ws : List ℕ) (cur b i : ℕ) where
  pub choose_dead : size_of ws i ≡ 0 → choose ws cur b i ≡ b
  unfolding choose
  choose_dead e = rw (eq-eqb _ _ e)

  pub choose_low : (size_of ws i ≡ 0 → ⊥) → place_of ws i < cur → choose ws cur b i ≡ b
  unfolding choose
  choose_low n l = rw (ne_eqb _ _ n, lt-ltb _ _ l)

  pub choose_new : (size_of ws i ≡ 0 → ⊥) → cur ≤ place_of ws i → 1024 ≤ b → choose ws cur b i ≡ i
  unfolding choose
  choose_new n l h = rw (ne_eqb _ _ n, le-ltb _ _ l, le-leb _ _ h)

  pub choose_less : (size_of ws i ≡ 0 → ⊥) → cur ≤ place_of ws i → b < 1024 → place_of ws i < place_of ws b → choose ws cur b i ≡ i
  unfolding choose
  choose_less n l h q = rw (ne_eqb _ _ n, le-ltb _ _ l, lt-leb _ _ h, lt-ltb _ _ q)

  pub choose_more : (size_of ws i ≡ 0 → ⊥) → cur ≤ place_of ws i → b < 1024 → place_of ws b ≤ place_of ws i → choose ws cur b i ≡ b
  unfolding choose
  choose_more n l h q = rw (ne_eqb _ _ n, le-ltb _ _ l, lt-leb _ _ h, le-ltb _ _ q)

  -- b stays
  keep : Least ws cur i b → (1 ≤ size_of ws i → cur ≤ place_of ws i → b < 1024) → (1 ≤ size_of ws i → cur ≤ place_of ws i → place_of ws b ≤ place_of ws i) → Least ws cur (suc i) b
  keep g f f' = record {
    live = g.live;
    above = g.above;
    some = λ j h s p. by_index j i (λ e. f (rw (← e) s) (rw (← e) p)) (λ ne. g.some j (omega arith) s p);
    first = λ j h s p. by_index j i (λ e. rw e (f' (rw (← e) s) (rw (← e) p))) (λ ne. g.first j (omega arith) s p);
  }

  -- i is taken
  take_new : i < 1024 → 1 ≤ size_of ws i → cur ≤ place_of ws i → ((j : ℕ) → j < i → 1 ≤ size_of ws j → cur ≤ place_of ws j → place_of ws i ≤ place_of ws j) → Least ws cur (suc i) i
  take_new hi s p f = record {
    live = λ h. s;
    above = λ h. p;
    some = λ j h s' p'. hi;
    first = λ j h s' p'. by_index j i (λ e. rw e (omega arith)) (λ ne. f j (omega arith) s' p');
  }

  choose_law : i < 1024 → Least ws cur i b → Least ws cur (suc i) (choose ws cur b i)
  choose_law hi g = by_index (size_of ws i) 0
      (λ e. rw (choose_dead e) (keep g (λ s p. absurd (omega arith)) (λ s p. absurd (omega arith))))
      (λ ne. by_lt (place_of ws i) cur
      (λ l. rw (choose_low ne l) (keep g (λ s p. absurd (omega arith)) (λ s p. absurd (omega arith))))
      (λ l. by_lt b 1024
      (λ hb. by_lt (place_of ws i) (place_of ws b)
      (λ q. rw (choose_less ne l hb q) (take_new hi (omega arith) l (λ j h s p. omega (arith, g.first j h s p))))
      (λ q. rw (choose_more ne l hb q) (keep g (λ s p. hb) (λ s p. q))))
      (λ hb. rw (choose_new ne l hb) (take_new hi (omega arith) l (λ j h s p. absurd (omega (arith, g.some j h s p)))))))

pub least_law : (ws : List ℕ) (cur n : ℕ) → n ≤ 1024 → Least ws cur n (least ws cur n)
unfolding least
least_law ws cur zero h = record { live = λ l. absurd (omega arith); above = λ l. absurd (omega arith); some = λ j l s p. absurd (omega arith); first = λ j l s p. absurd (omega arith) }
least_law ws cur (suc n) h = choose_law ws cur (least ws cur n) n (omega arith) (least_law ws cur n (omega arith))

-- every row's payload lies in a store of len bytes
pub record Fits (ws : List ℕ) (len : ℕ) : Type 0 where
  pub inside : (i : ℕ) → i < 1024 → place_of ws i + size_of ws i ≤ len

-- a turn that moves row r, and those that have nothing to do
pub turn_moves : (ws st : List ℕ) (cur r : ℕ) → r ≡ least ws cur 1024 → r < 1024 → place_of ws r + size_of ws r ≤ length st
    → turn (pack ws st cur) ≡ pack (put_place ws r cur) (moved st (place_of ws r) cur (size_of ws r)) (cur + size_of ws r)
unfolding turn turn_at
turn_moves ws st cur r e h i = rw (← e, lt-leb 1024 r h, lies_yes (place_of ws r) (size_of ws r) (length st) i)

turn_stops : (ws st : List ℕ) (cur r : ℕ) → r ≡ least ws cur 1024 → r < 1024 → lies (place_of ws r) (size_of ws r) (length st) ≡ false → turn (pack ws st cur) ≡ pack ws st cur
unfolding turn turn_at
turn_stops ws st cur r e h i = rw (← e, lt-leb 1024 r h, i)

pub turn_rests : (s : Pack) → 1024 ≤ least s.words s.cursor 1024 → turn s ≡ s
unfolding turn turn_at
turn_rests s h = rw (le-leb 1024 (least s.words s.cursor 1024) h)

pub turns_rest : (s : Pack) (k m : ℕ) → turn (turns s k) ≡ turns s k → turns s (m + k) ≡ turns s k
unfolding turns
turns_rest s k zero e = let z : 0 + k ≡ k = omega arith in ap (turns s) z
turns_rest s k (suc m) e = let z : suc m + k ≡ suc (m + k) = omega arith in ap (turns s) z ∙ (ap turn (turns_rest s k m e) ∙ e)

pub fits_turn : (ws : List ℕ) (len cur r : ℕ) → length ws ≡ 20768 → r < 1024 → cur ≤ place_of ws r → Fits ws len → Fits (put_place ws r cur) len
fits_turn ws len cur r l h p f = record {
  inside = λ i hi. by_index r i
      (λ e. rw (← e, place_same ws r cur l h, place_size) (omega (arith, f.inside r h)))
      (λ ne. rw (place_other ws r cur i ne, place_size) (f.inside i hi));
}

-- what the loop of move_together keeps
pub record Going (ws₀ st₀ ws st : List ℕ) (cur k : ℕ) : Type 0 where
  pub few : k ≤ length st₀
  pub long : length ws ≡ 20768
  pub same : length st ≡ length st₀
  pub are : pack ws st cur ≡ turns (pack ws₀ st₀ 0) k

-- the row that is moved: it lies in the store, at or above the cursor
pub record Moving (ws st : List ℕ) (cur r p n : ℕ) : Type 0 where
  pub in_store : p + n ≤ length st
  pub down : cur ≤ p
  pub alive : 1 ≤ n

pub moving : (ws₀ st₀ ws st : List ℕ) (cur k r p n len : ℕ) (b : Bool) → Going ws₀ st₀ ws st cur k → r ≡ least ws cur 1024 → r < 1024
    → p ≡ place_of ws r → n ≡ size_of ws r → len ≡ length st₀ → b ≡ lies p n len → b ≡ true → Moving ws st cur r p n
moving ws₀ st₀ ws st cur k r p n len b g e h ep en el eb et =
    let q : Least ws cur 1024 r = rw e (least_law ws cur 1024 (omega arith)) in
    record {
      in_store = omega (arith, lies_in p n len (sym eb ∙ et), g.same);
      down = omega (arith, q.above h);
      alive = omega (arith, q.live h);
    }

pub going_start : (ws st : List ℕ) → length ws ≡ 20768 → Going ws st ws st 0 0
unfolding turns
going_start ws st l = record { few = omega arith; long = l; same = refl; are = refl }

pub going_on : (ws₀ st₀ ws st ws' st' : List ℕ) (cur k r p n : ℕ) → Going ws₀ st₀ ws st cur k → k < length st₀ → r ≡ least ws cur 1024 → r < 1024
    → p ≡ place_of ws r → n ≡ size_of ws r → Moving ws st cur r p n → st' ≡ moved st p cur n → ws' ≡ put_place ws r cur → Going ws₀ st₀ ws' st' (cur + n) (k + 1)
unfolding turns
going_on ws₀ st₀ ws st ws' st' cur k r p n g hk e h ep en m es ew =
    let t : turn (turns (pack ws₀ st₀ 0) k) ≡ pack ws' st' (cur + n) = ap turn (sym g.are) ∙ (turn_moves ws st cur r e h (omega (arith, m.in_store)) ∙ rw (ew, es, ep, en)) in
    record {
      few = omega arith;
      long = rw ew (place_length ws r cur ∙ g.long);
      same = ap length es ∙ (moved_length st p cur n ∙ g.same);
      are = rw add-one (sym t);
    }

going_over : (ws₀ st₀ ws st : List ℕ) (cur k : ℕ) → Going ws₀ st₀ ws st cur k → turn (pack ws st cur) ≡ pack ws st cur → pack ws st cur ≡ together ws₀ st₀
unfolding together
going_over ws₀ st₀ ws st cur k g t =
    let m : length st₀ - k + k ≡ length st₀ = omega (arith, g.few) in
    g.are ∙ (sym (turns_rest (pack ws₀ st₀ 0) k (length st₀ - k) (rw g.are at t)) ∙ ap (turns (pack ws₀ st₀ 0)) m)

pub going_rests : (ws₀ st₀ ws st : List ℕ) (cur k r : ℕ) → Going ws₀ st₀ ws st cur k → r ≡ least ws cur 1024 → 1024 ≤ r → pack ws st cur ≡ together ws₀ st₀
going_rests ws₀ st₀ ws st cur k r g e h = going_over ws₀ st₀ ws st cur k g (turn_rests (pack ws st cur) (omega arith))

pub going_stops : (ws₀ st₀ ws st : List ℕ) (cur k r p n len : ℕ) (b : Bool) → Going ws₀ st₀ ws st cur k → r ≡ least ws cur 1024 → r < 1024
    → p ≡ place_of ws r → n ≡ size_of ws r → len ≡ length st₀ → b ≡ lies p n len → b ≡ false → pack ws st cur ≡ together ws₀ st₀
going_stops ws₀ st₀ ws st cur k r p n len b g e h ep en el eb et =
    let z : lies (place_of ws r) (size_of ws r) (length st) ≡ false = rw (← ep, ← en, g.same, ← el) (sym eb ∙ et) in
    going_over ws₀ st₀ ws st cur k g (turn_stops ws st cur r e h z)

pub going_end : (ws₀ st₀ ws st : List ℕ) (cur k : ℕ) → Going ws₀ st₀ ws st cur k → length st₀ ≤ k → pack ws st cur ≡ together ws₀ st₀
unfolding together
going_end ws₀ st₀ ws st cur k g h = g.are ∙ ap (turns (pack ws₀ st₀ 0)) (omega (arith, g.few))
