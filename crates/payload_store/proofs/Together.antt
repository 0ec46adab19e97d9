-- Moving together keeps every payload, and leaves no gap. Assumes nothing.
use mathlib.Core.Path.{◌≡◌, refl, sym, ap, ◌∙◌}
use mathlib.Core.Logic.{◌⊎◌, inl, inr, ⊎_elim}
use mathlib.Core.List.{List}
use Prim.Native.Nat.{ℕ, zero, suc, ◌+◌, ◌≤◌, ◌<◌}
use native.Mathlib.Omega.{arith}
use borrow.Author.Tests.{le-leb, lt-leb}
use lib.Dec.{leb}
use lib.ListN.{length, get_or}
use Rattle.queue_words.specs.Flags.{pick}
use Rattle.queue_words.specs.Header.{totals_at}
use Rattle.queue_words.specs.declared.header.Gaps.{Gaps}
use Rattle.queue_words.specs.declared.header.Totals.{Totals}
use Rattle.queue_words.specs.Items.{put_place}
use Rattle.payload_store.specs.Words.{used_of, place_of, size_of}
use Rattle.payload_store.specs.Moving.{least, moved, Pack, pack, turn, turns, together}
use Rattle.payload_store.specs.Good.{payload_of, sum_to, Apart, Lay}
use Rattle.payload_store.specs.Promise.{Together}
use Rattle.payload_store.proofs.Cases.{by_index}
use Rattle.payload_store.proofs.Sums.{sum_same, sum_one, sum_zero}
use Rattle.payload_store.proofs.Moves.{moved_length, moved_other, moved_at, part_same}
use Rattle.payload_store.proofs.Laws.{place_length, place_same, place_other, place_size, place_totals}
use Rattle.payload_store.proofs.Choice.{Least, least_law, turn_moves, turn_rests, fits_turn}
use Rattle.queue_words.proofs.Finds.{by_lt}

-- a row's payload is the same by its bytes
pub payload_same : (ws st ws' st' : List ℕ) (i : ℕ) → size_of ws' i ≡ size_of ws i → place_of ws i + size_of ws i ≤ length st → place_of ws' i + size_of ws i ≤ length st'
    → ((j : ℕ) → j < size_of ws i → get_or st' (place_of ws' i + j) 0 ≡ get_or st (place_of ws i + j) 0) → payload_of ws' st' i ≡ payload_of ws st i
unfolding payload_of
payload_same ws st ws' st' i e h h' f = rw e (part_same st st' (place_of ws i) (place_of ws' i) (size_of ws i) h h' f)

-- what row j has still to be moved
unfoldable pub todo : List ℕ → ℕ → ℕ → ℕ
todo ws cur j = pick (leb cur (place_of ws j)) (size_of ws j) 0

todo_yes : (ws : List ℕ) (cur j : ℕ) → cur ≤ place_of ws j → todo ws cur j ≡ size_of ws j
unfolding todo
todo_yes ws cur j h = rw (le-leb cur (place_of ws j) h)

todo_no : (ws : List ℕ) (cur j : ℕ) → place_of ws j < cur → todo ws cur j ≡ 0
unfolding todo
todo_no ws cur j h = rw (lt-leb cur (place_of ws j) h)

todo_dead : (ws : List ℕ) (cur j : ℕ) → size_of ws j ≡ 0 → todo ws cur j ≡ 0
todo_dead ws cur j e = by_lt (place_of ws j) cur (λ l. todo_no ws cur j l) (λ l. todo_yes ws cur j l ∙ e)

-- between two turns: what lies below the cursor is done, what lies at or above it is to do
pub record Mid (ws₀ st₀ ws st : List ℕ) (cur : ℕ) : Type 0 where
  pub long : length ws ≡ 20768
  pub same : length st ≡ length st₀
  pub inside : (i : ℕ) → i < 1024 → place_of ws i + size_of ws i ≤ length st₀
  pub apart : Apart ws
  pub sides : (i : ℕ) → i < 1024 → 1 ≤ size_of ws i → (place_of ws i + size_of ws i ≤ cur) ⊎ (cur ≤ place_of ws i)
  pub cur_in : cur ≤ length st₀
  pub sum : cur + sum_to (todo ws cur) 1024 ≡ used_of ws₀
  pub sizes : (i : ℕ) → size_of ws i ≡ size_of ws₀ i
  pub bytes : (i : ℕ) → i < 1024 → 1 ≤ size_of ws i → payload_of ws st i ≡ payload_of ws₀ st₀ i
  pub totals : totals_at ws ≡ totals_at ws₀

module _ (ws₀ st₀ ws st : List ℕ) (cur r : ℕ) (m : Mid ws₀ st₀ ws st cur) (h : r < 1024) (q : Least ws cur 1024 r) where
  here : place_of (put_place ws r cur) r ≡ cur
  here = place_same ws r cur m.long h

  -- another live row lies below the cursor, or above the row that is moved
  settled : (j : ℕ) → j < 1024 → (r ≡ j → ⊥) → 1 ≤ size_of ws j → (place_of ws j + size_of ws j ≤ cur) ⊎ (place_of ws r + size_of ws r ≤ place_of ws j)
  settled j hj ne s = ⊎_elim (λ l. inl l)
      (λ l. ⊎_elim (λ a. inr a) (λ a. absurd (omega (arith, q.first j hj s l))) (m.apart r j h hj ne (q.live h) s))
      (m.sides j hj s)

  sides' : (i : ℕ) → i < 1024 → 1 ≤ size_of (put_place ws r cur) i
      → (place_of (put_place ws r cur) i + size_of (put_place ws r cur) i ≤ cur + size_of ws r) ⊎ (cur + size_of ws r ≤ place_of (put_place ws r cur) i)
  sides' i hi s =
      let z : size_of (put_place ws r cur) i ≡ size_of ws i = place_size ws r cur i in
      by_index r i
      (λ e. inl (omega (arith, ap (place_of (put_place ws r cur)) e, here, ap (size_of ws) e)))
      (λ ne. let o : place_of (put_place ws r cur) i ≡ place_of ws i = place_other ws r cur i ne in
      ⊎_elim (λ l. inl (omega arith)) (λ l. inr (omega (arith, q.above h))) (settled i hi ne (omega arith)))

  apart' : Apart (put_place ws r cur)
  apart' i j hi hj ne si sj =
      let zi : size_of (put_place ws r cur) i ≡ size_of ws i = place_size ws r cur i in
      let zj : size_of (put_place ws r cur) j ≡ size_of ws j = place_size ws r cur j in
      by_index r i
      (λ e. let nj : r ≡ j → ⊥ = λ z. ne (sym e ∙ z) in
      let o : place_of (put_place ws r cur) j ≡ place_of ws j = place_other ws r cur j nj in
      let p : cur ≡ place_of (put_place ws r cur) i = sym here ∙ ap (place_of (put_place ws r cur)) e in
      let z : size_of ws r ≡ size_of ws i = ap (size_of ws) e in
      ⊎_elim (λ l. inr (omega arith)) (λ l. inl (omega (arith, q.above h))) (settled j hj nj (omega arith)))
      (λ ni. let oi : place_of (put_place ws r cur) i ≡ place_of ws i = place_other ws r cur i ni in
      by_index r j
      (λ e. let p : cur ≡ place_of (put_place ws r cur) j = sym here ∙ ap (place_of (put_place ws r cur)) e in
      let z : size_of ws r ≡ size_of ws j = ap (size_of ws) e in
      ⊎_elim (λ l. inl (omega arith)) (λ l. inr (omega (arith, q.above h))) (settled i hi ni (omega arith)))
      (λ nj. let oj : place_of (put_place ws r cur) j ≡ place_of ws j = place_other ws r cur j nj in
      ⊎_elim (λ l. inl (omega arith)) (λ l. inr (omega arith)) (m.apart i j hi hj ne (omega arith) (omega arith))))

  todo_other : (j : ℕ) → j < 1024 → (r ≡ j → ⊥) → todo (put_place ws r cur) (cur + size_of ws r) j ≡ todo ws cur j
  todo_other j hj ne =
      let z : size_of (put_place ws r cur) j ≡ size_of ws j = place_size ws r cur j in
      let o : place_of (put_place ws r cur) j ≡ place_of ws j = place_other ws r cur j ne in
      by_index (size_of ws j) 0
      (λ e. todo_dead (put_place ws r cur) (cur + size_of ws r) j (z ∙ e) ∙ sym (todo_dead ws cur j e))
      (λ n. ⊎_elim
      (λ l. todo_no (put_place ws r cur) (cur + size_of ws r) j (omega arith) ∙ sym (todo_no ws cur j (omega arith)))
      (λ l. todo_yes (put_place ws r cur) (cur + size_of ws r) j (omega (arith, q.above h)) ∙ (z ∙ sym (todo_yes ws cur j (omega (arith, q.above h)))))
      (settled j hj ne (omega arith)))

  sum' : cur + size_of ws r + sum_to (todo (put_place ws r cur) (cur + size_of ws r)) 1024 ≡ used_of ws₀
  sum' =
      let a : todo ws cur r ≡ size_of ws r = todo_yes ws cur r (q.above h) in
      let b : todo (put_place ws r cur) (cur + size_of ws r) r ≡ 0 = todo_no (put_place ws r cur) (cur + size_of ws r) r (omega (arith, here, q.live h)) in
      omega (arith, m.sum, sum_one (todo ws cur) (todo (put_place ws r cur) (cur + size_of ws r)) r 1024 h todo_other)

  bytes_here : payload_of (put_place ws r cur) (moved st (place_of ws r) cur (size_of ws r)) r ≡ payload_of ws st r
  bytes_here =
      let p : place_of ws r + size_of ws r ≤ length st = omega (arith, m.inside r h, m.same) in
      payload_same ws st (put_place ws r cur) (moved st (place_of ws r) cur (size_of ws r)) r (place_size ws r cur r) p
      (omega (arith, here, q.above h, moved_length st (place_of ws r) cur (size_of ws r)))
      (λ j l. rw here (moved_at st (place_of ws r) cur (size_of ws r) j (q.above h) p l))

  bytes_other : (i : ℕ) → i < 1024 → (r ≡ i → ⊥) → 1 ≤ size_of ws i → payload_of (put_place ws r cur) (moved st (place_of ws r) cur (size_of ws r)) i ≡ payload_of ws st i
  bytes_other i hi ne s =
      let p : place_of ws i + size_of ws i ≤ length st = omega (arith, m.inside i hi, m.same) in
      let o : place_of (put_place ws r cur) i ≡ place_of ws i = place_other ws r cur i ne in
      payload_same ws st (put_place ws r cur) (moved st (place_of ws r) cur (size_of ws r)) i (place_size ws r cur i) p
      (omega (arith, moved_length st (place_of ws r) cur (size_of ws r)))
      (λ j l. rw o (moved_other st (place_of ws r) cur (size_of ws r) (place_of ws i + j)
      (⊎_elim (λ a. inl (omega arith)) (λ a. inr (omega (arith, q.above h))) (settled i hi ne s))))

  mid_turn : Mid ws₀ st₀ (put_place ws r cur) (moved st (place_of ws r) cur (size_of ws r)) (cur + size_of ws r)
  mid_turn = record {
    long = place_length ws r cur ∙ m.long;
    same = moved_length st (place_of ws r) cur (size_of ws r) ∙ m.same;
    inside = (fits_turn ws (length st₀) cur r m.long h (q.above h) (record { inside = m.inside })).inside;
    apart = apart';
    sides = sides';
    cur_in = omega (arith, m.inside r h, q.above h);
    sum = sum';
    sizes = λ i. place_size ws r cur i ∙ m.sizes i;
    bytes = λ i hi s.
        let s' : 1 ≤ size_of ws i = omega (arith, place_size ws r cur i) in
        by_index r i
        (λ e. rw (← e) (bytes_here ∙ m.bytes r h (q.live h)))
        (λ ne. bytes_other i hi ne s' ∙ m.bytes i hi s');
    totals = place_totals ws r cur ∙ m.totals;
  }

-- k turns: the cursor has gone up by k at least, or nothing is left to do
pub record Prog (ws₀ st₀ : List ℕ) (k : ℕ) (s : Pack) : Type 0 where
  pub mid : Mid ws₀ st₀ s.words s.store s.cursor
  pub going : (k ≤ s.cursor) ⊎ (1024 ≤ least s.words s.cursor 1024)

turn_prog : (ws₀ st₀ : List ℕ) (k : ℕ) (s : Pack) → Prog ws₀ st₀ k s → Prog ws₀ st₀ (suc k) (turn s)
turn_prog ws₀ st₀ k s g = by_lt (least s.words s.cursor 1024) 1024
    (λ h. let q = least_law s.words s.cursor 1024 (omega arith) in
    rw (turn_moves s.words s.store s.cursor (least s.words s.cursor 1024) refl h (omega (arith, g.mid.inside (least s.words s.cursor 1024) h, g.mid.same)))
    (record {
      mid = mid_turn ws₀ st₀ s.words s.store s.cursor (least s.words s.cursor 1024) g.mid h q;
      going = ⊎_elim (λ l. inl (omega (arith, q.live h))) (λ l. absurd (omega arith)) g.going;
    }))
    (λ h. rw (turn_rests s h) (record { mid = g.mid; going = inr h }))

turns_prog : (ws₀ st₀ : List ℕ) (s : Pack) (k : ℕ) → Prog ws₀ st₀ 0 s → Prog ws₀ st₀ k (turns s k)
unfolding turns
turns_prog ws₀ st₀ s zero g = g
turns_prog ws₀ st₀ s (suc k) g = turn_prog ws₀ st₀ k (turns s k) (turns_prog ws₀ st₀ s k g)

mid_start : (ws st : List ℕ) (at : Gaps) → Lay ws st at → Mid ws st ws st 0
mid_start ws st at g = record {
  long = g.long;
  same = refl;
  inside = g.inside;
  apart = g.apart;
  sides = λ i hi s. inr (omega arith);
  cur_in = omega arith;
  sum = omega (arith, g.used_is, sum_same (size_of ws) (todo ws 0) 1024 (λ j h. todo_yes ws 0 j (omega arith)));
  sizes = λ i. refl;
  bytes = λ i hi s. refl;
  totals = refl;
}

finish : (ws₀ st₀ : List ℕ) (at : Gaps) (s : Pack) → Lay ws₀ st₀ at → Prog ws₀ st₀ (length st₀) s → Together ws₀ st₀ s
finish ws₀ st₀ at s g p =
    let m = p.mid in
    let none : (j : ℕ) → j < 1024 → 1 ≤ size_of s.words j → s.cursor ≤ place_of s.words j → ⊥ =
    λ j h l a. ⊎_elim (λ k. omega (arith, m.inside j h))
    (λ k. omega (arith, (least_law s.words s.cursor 1024 (omega arith)).some j h l a)) p.going in
    let below : (j : ℕ) → j < 1024 → 1 ≤ size_of s.words j → place_of s.words j + size_of s.words j ≤ s.cursor =
    λ j h l. ⊎_elim (λ k. k) (λ k. absurd (none j h l k)) (m.sides j h l) in
    let zero_all : sum_to (todo s.words s.cursor) 1024 ≡ 0 = sum_zero (todo s.words s.cursor) 1024
    (λ j h. by_index (size_of s.words j) 0 (λ e. todo_dead s.words s.cursor j e)
    (λ n. todo_no s.words s.cursor j (omega (arith, below j h (omega arith))))) in
    let c : s.cursor ≡ used_of ws₀ = omega (arith, m.sum) in
    let u : used_of s.words ≡ used_of ws₀ = ap (λ (t : Totals). t.used) m.totals in
    record {
      lay = record {
        long = m.long;
        limit_in = omega (arith, m.same);
        end_in = omega (arith, m.cur_in);
        upto_in = omega arith;
        from_in = omega arith;
        beside = inl (omega arith);
        inside = λ i h. omega (arith, m.inside i h, m.same);
        clear = λ i h l. inl (omega (arith, below i h l));
        aside = λ i h l. inr (omega arith);
        apart = m.apart;
        used_is = u ∙ (g.used_is ∙ sym (sum_same (size_of ws₀) (size_of s.words) 1024 (λ j h. m.sizes j)));
      };
      cursor_is = c;
      totals = m.totals;
      same = m.same;
      sizes = m.sizes;
      bytes = λ i h l. m.bytes i h (omega (arith, m.sizes i));
    }

-- THE THEOREM of moving together
pub together_law : (ws st : List ℕ) (at : Gaps) → Lay ws st at → Together ws st (together ws st)
unfolding together
together_law ws st at g = finish ws st at (turns (pack ws st 0) (length st)) g
    (turns_prog ws st (pack ws st 0) (length st) (record { mid = mid_start ws st at g; going = inl (omega arith) }))
