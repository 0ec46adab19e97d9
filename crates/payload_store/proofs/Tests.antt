-- What the tests of put_code say, and what moving together leaves alone. Assumes nothing.
use mathlib.Core.Path.{◌≡◌, refl, sym, ap, ◌∙◌}
use mathlib.Core.Bool.{Bool, true, false}
use mathlib.Core.List.{List}
use Prim.Native.Nat.{ℕ, zero, suc, ◌+◌, ◌-◌, ◌≤◌, ◌<◌}
use native.Mathlib.Omega.{arith}
use borrow.Author.Tests.{le-ltb, le-leb, lt-leb, eq-eqb, ne_eqb, ltb-false, leb-true, leb-false, eqb-true}
use lib.Dec.{ltb, leb, eqb}
use lib.ListN.{length}
use Rattle.queue_words.specs.Flags.{pick}
use Rattle.queue_words.specs.Header.{totals_at}
use Rattle.queue_words.specs.declared.header.Gaps.{Gaps}
use Rattle.queue_words.specs.declared.header.Totals.{Totals}
use Rattle.queue_words.specs.Items.{put_place}
use Rattle.payload_store.specs.declared.Tally.{Tally}
use Rattle.payload_store.specs.Words.{used_of, gaps_of, place_of, size_of}
use Rattle.payload_store.specs.Moving.{together, Pack, pack, turn, turn_at, turns, least, moved}
use Rattle.std.specs.Prelude.{Ok}
use Rattle.payload_store.specs.declared.NoRoom.{NoRoom}
use Rattle.payload_store.specs.declared.NoRoom.TheVariants.{StoreFull, Broken}
use Rattle.payload_store.specs.declared.Room.{Room}
use Rattle.payload_store.specs.declared.Room.TheVariants.{KnownGap, Elsewhere}
use Rattle.payload_store.specs.Putting.{put_number, no_room_number, tally, row_fits_words, fits_to, all_fit, put_code, put_elsewhere, put_payload, placed, outcome, Outcome}
use Rattle.payload_store.specs.Gaps.{gaps, room, gaps_wrong, gap_for}
use Rattle.payload_store.specs.Searching.{lies, found}
use Rattle.payload_store.specs.Good.{sum_to}
use Rattle.payload_store.proofs.Cases.{by_index, pick_else, pick_then, pick_both, false_true}
use Rattle.payload_store.proofs.Clear.{Ordered, right_ordered, for_ordered}
use Rattle.payload_store.proofs.Choice.{Fits}
use Rattle.payload_store.proofs.Found.{found_gap}
use Rattle.payload_store.proofs.Moves.{moved_length}
use Rattle.payload_store.proofs.Laws.{place_totals, place_length}

-- what a tally that is still ok says of row n, where bytes are left
record Fitting (ws : List ℕ) (len n : ℕ) (t t' : Tally) : Type 0 where
  was : t.ok ≡ true
  in_store : place_of ws n + size_of ws n ≤ len
  rest : t'.left + size_of ws n ≡ t.left

fitting : (ws : List ℕ) (len n : ℕ) (t : Tally) → (t.left ≡ 0 → ⊥) → (row_fits_words ws len n t).ok ≡ true → Fitting ws len n t (row_fits_words ws len n t)
unfolding row_fits_words
fitting ws len n t ne e =
    rw (ne_eqb t.left 0 ne)
    (go (ltb len (size_of ws n)) refl (ltb (len - size_of ws n) (place_of ws n)) refl (ltb t.left (size_of ws n)) refl (rw (ne_eqb t.left 0 ne) at e))
  where
    go : (a : Bool) → ltb len (size_of ws n) ≡ a → (b : Bool) → ltb (len - size_of ws n) (place_of ws n) ≡ b → (c : Bool) → ltb t.left (size_of ws n) ≡ c
        → (pick a (tally false t.left) (pick b (tally false t.left) (pick c (tally false t.left) (tally t.ok (t.left - size_of ws n))))).ok ≡ true
        → Fitting ws len n t (pick a (tally false t.left) (pick b (tally false t.left) (pick c (tally false t.left) (tally t.ok (t.left - size_of ws n)))))
    go true ea b eb c ec h = false_true h
    go false ea true eb c ec h = false_true h
    go false ea false eb true ec h = false_true h
    go false ea false eb false ec h = record {
      was = h;
      in_store = omega (arith, ltb-false len (size_of ws n) ea, ltb-false (len - size_of ws n) (place_of ws n) eb);
      rest = omega (arith, ltb-false t.left (size_of ws n) ec);
    }

-- where nothing is left, no further row is judged
fits_skips : (ws : List ℕ) (len used n : ℕ) → (fits_to ws len used n).left ≡ 0 → fits_to ws len used (suc n) ≡ fits_to ws len used n
unfolding fits_to row_fits_words
fits_skips ws len used n e = rw (eq-eqb (fits_to ws len used n).left 0 e)

fits_stay : (ws : List ℕ) (len used n k : ℕ) → (fits_to ws len used n).left ≡ 0 → fits_to ws len used (k + n) ≡ fits_to ws len used n
fits_stay ws len used n zero e = let z : 0 + n ≡ n = omega arith in ap (fits_to ws len used) z
fits_stay ws len used n (suc k) e =
    let z : suc k + n ≡ suc (k + n) = omega arith in
    let i = fits_stay ws len used n k e in
    ap (fits_to ws len used) z ∙ (fits_skips ws len used (k + n) (ap (λ (t : Tally). t.left) i ∙ e) ∙ i)

-- what the test of the first n rows says of those that were judged
record FitTo (ws : List ℕ) (len used n left : ℕ) : Type 0 where
  rows : ℕ
  few : rows ≤ n
  inside : (i : ℕ) → i < rows → place_of ws i + size_of ws i ≤ len
  sum : left + sum_to (size_of ws) rows ≡ used
  all : (left ≡ 0 → ⊥) → rows ≡ n

fits_none : (ws : List ℕ) (len used : ℕ) → FitTo ws len used 0 (fits_to ws len used 0).left
unfolding fits_to sum_to
fits_none ws len used = record { rows = 0; few = omega arith; inside = λ i h. absurd (omega arith); sum = omega arith; all = λ ne. refl }

fits_fitting : (ws : List ℕ) (len used n : ℕ) → ((fits_to ws len used n).left ≡ 0 → ⊥) → (fits_to ws len used (suc n)).ok ≡ true → Fitting ws len n (fits_to ws len used n) (fits_to ws len used (suc n))
unfolding fits_to
fits_fitting ws len used n nz e = fitting ws len n (fits_to ws len used n) nz e

fits_to_lem : (ws : List ℕ) (len used n : ℕ) → (fits_to ws len used n).ok ≡ true → FitTo ws len used n (fits_to ws len used n).left
unfolding sum_to
fits_to_lem ws len used zero e = fits_none ws len used
fits_to_lem ws len used (suc n) e = by_index (fits_to ws len used n).left 0
    (λ z. let q = fits_skips ws len used n z in
    let g = fits_to_lem ws len used n (rw q at e) in
    rw q (record { rows = g.rows; few = omega (arith, g.few); inside = g.inside; sum = g.sum; all = λ ne. absurd (ne z) }))
    (λ nz. let f = fits_fitting ws len used n nz e in
    let g = fits_to_lem ws len used n f.was in
    let a = g.all nz in
    record {
      rows = suc n;
      few = omega arith;
      inside = λ i h. by_index i n (λ q. rw q f.in_store) (λ q. g.inside i (omega arith));
      sum = omega (arith, f.rest, rw a at g.sum);
      all = λ ne. refl;
    })

-- some first rows fit: each payload lies in the store, and together they are the used bytes
pub record Sound (ws : List ℕ) (len used : ℕ) : Type 0 where
  pub rows : ℕ
  pub few : rows ≤ 1024
  pub inside : (i : ℕ) → i < rows → place_of ws i + size_of ws i ≤ len
  pub sum : sum_to (size_of ws) rows ≡ used

pub all_true : (ws : List ℕ) (len used : ℕ) → all_fit ws len used ≡ true → Sound ws len used
unfolding all_fit
all_true ws len used e =
    let p = pick_both (fits_to ws len used 1024).ok (eqb (fits_to ws len used 1024).left 0) e in
    let g = fits_to_lem ws len used 1024 p.0 in
    record { rows = g.rows; few = g.few; inside = g.inside; sum = omega (arith, g.sum, eqb-true (fits_to ws len used 1024).left 0 p.1) }

-- the ways out of all_fit
all_done : (ws : List ℕ) (len used n : ℕ) (t : Tally) → t ≡ fits_to ws len used n → n ≡ 1024 → pick t.ok (eqb t.left 0) false ≡ all_fit ws len used
unfolding all_fit
all_done ws len used n t e en = ap (λ (x : Tally). pick x.ok (eqb x.left 0) false) (e ∙ ap (fits_to ws len used) en)

pub all_ok : (ws : List ℕ) (len used n : ℕ) (t : Tally) → t ≡ fits_to ws len used n → n ≡ 1024 → t.ok ≡ true → eqb t.left 0 ≡ all_fit ws len used
all_ok ws len used n t e en h = rw h at (all_done ws len used n t e en)

pub all_bad : (ws : List ℕ) (len used n : ℕ) (t : Tally) → t ≡ fits_to ws len used n → n ≡ 1024 → t.ok ≡ false → false ≡ all_fit ws len used
all_bad ws len used n t e en h = rw h at (all_done ws len used n t e en)

pub all_early : (ws : List ℕ) (len used n : ℕ) (t : Tally) → n ≤ 1024 → t ≡ fits_to ws len used n → t.left ≡ 0 → t.ok ≡ all_fit ws len used
all_early ws len used n t h e z =
    let m : 1024 - n + n ≡ 1024 = omega arith in
    let q : t ≡ fits_to ws len used 1024 = e ∙ (sym (fits_stay ws len used n (1024 - n) (rw e at z)) ∙ ap (fits_to ws len used) m) in
    go t.ok refl q
  where
    go : (b : Bool) → t.ok ≡ b → t ≡ fits_to ws len used 1024 → t.ok ≡ all_fit ws len used
    go true k q = k ∙ (sym (eq-eqb t.left 0 z) ∙ all_ok ws len used 1024 t q refl k)
    go false k q = k ∙ all_bad ws len used 1024 t q refl k

to_fits : (ws : List ℕ) (len used n : ℕ) → n ≤ 1024 → Fits ws len → sum_to (size_of ws) n ≤ used → ((fits_to ws len used n).ok ≡ true) × ((fits_to ws len used n).left + sum_to (size_of ws) n ≡ used)
unfolding fits_to row_fits_words sum_to
to_fits ws len used zero h f s = (refl, omega arith)
to_fits ws len used (suc n) h f s =
    let q : place_of ws n + size_of ws n ≤ len = f.inside n (omega arith) in
    let r = to_fits ws len used n (omega arith) f (omega arith) in
    let l : size_of ws n ≤ (fits_to ws len used n).left = omega (arith, r.1) in
    by_index (fits_to ws len used n).left 0
    (λ z. rw (eq-eqb (fits_to ws len used n).left 0 z) (r.0, omega (arith, r.1)))
    (λ nz. rw (ne_eqb (fits_to ws len used n).left 0 nz, le-ltb len (size_of ws n) (omega arith), le-ltb (len - size_of ws n) (place_of ws n) (omega arith), le-ltb (fits_to ws len used n).left (size_of ws n) l)
    (r.0, omega (arith, r.1)))

pub true_all : (ws : List ℕ) (len used : ℕ) → Fits ws len → sum_to (size_of ws) 1024 ≡ used → all_fit ws len used ≡ true
unfolding all_fit
true_all ws len used f s =
    let r = to_fits ws len used 1024 (omega arith) f (omega arith) in
    rw (r.0, eq-eqb (fits_to ws len used 1024).left 0 (omega (arith, r.1)))

pub record PutOk (ws : List ℕ) (len i n : ℕ) : Type 0 where
  pub row : i < 1024
  pub dead : size_of ws i ≡ 0
  pub room : used_of ws + n ≤ len
  pub ordered : Ordered (gaps_of ws) len

module _ (ws : List ℕ) (len i n : ℕ) where
  -- the last two tests
  abbrev Rest : ℕ
  Rest = pick (leb n (room (gap_for (gaps_of ws) n))) 0 (pick (all_fit ws len (used_of ws)) 1 16)

  passed : (v : ℕ) → v ≤ 1 → put_code ws len i n ≡ v → PutOk ws len i n × (Rest ≡ v)
  unfolding put_code
  passed v hv e =
      let t1 = pick_else (leb 1024 i) 16 _ v (λ z. omega arith) e in
      let t2 = pick_else (ltb 0 (size_of ws i)) 16 _ v (λ z. omega arith) t1.1 in
      let t3 = pick_else (ltb len (used_of ws)) 16 _ v (λ z. omega arith) t2.1 in
      let t4 = pick_else (ltb (len - used_of ws) n) 8 _ v (λ z. omega arith) t3.1 in
      let t5 = pick_else (gaps_wrong (gaps_of ws) len) 16 _ v (λ z. omega arith) t4.1 in (
        record {
          row = leb-false 1024 i t1.0;
          dead = omega (arith, ltb-false 0 (size_of ws i) t2.0);
          room = omega (arith, ltb-false len (used_of ws) t3.0, ltb-false (len - used_of ws) n t4.0);
          ordered = right_ordered (gaps_of ws) len t5.0;
        },
        t5.1,
      )

  pub put_zero : put_code ws len i n ≡ 0 → PutOk ws len i n × ((gap_for (gaps_of ws) n).end + n ≤ len)
  put_zero e =
      let p = passed 0 (omega arith) e in
      let t : leb n (room (gap_for (gaps_of ws) n)) ≡ true = pick_then (leb n (room (gap_for (gaps_of ws) n))) 0 _ 0 (never (all_fit ws len (used_of ws))) p.1 in
      let o = for_ordered (gaps_of ws) n len p.0.ordered in
      (p.0, omega (arith, leb-true n (room (gap_for (gaps_of ws) n)) t, o.end_in, o.limit_in))
    where
      never : (t : Bool) → ◌≡◌ {A = ℕ} (pick t 1 16) 0 → ⊥
      never true z = omega arith
      never false z = omega arith

  pub put_one : put_code ws len i n ≡ 1 → PutOk ws len i n × Sound ws len (used_of ws)
  put_one e =
      let p = passed 1 (omega arith) e in
      let t = pick_else (leb n (room (gap_for (gaps_of ws) n))) 0 _ 1 (λ z. omega arith) p.1 in
      (p.0, all_true ws len (used_of ws) (pick_then (all_fit ws len (used_of ws)) 1 16 1 (λ z. omega arith) t.1))

  -- where a put is not refused
  pub put_may : put_code ws len i n ≤ 1 → PutOk ws len i n
  put_may h = (passed (put_code ws len i n) h refl).0

  pub put_known : put_code ws len i n ≤ 1 → n ≤ room (gap_for (gaps_of ws) n) → 0 ≡ put_code ws len i n
  put_known h k = rw (le-leb n (room (gap_for (gaps_of ws) n)) k) at (passed (put_code ws len i n) h refl).1

  pub put_other : put_code ws len i n ≤ 1 → room (gap_for (gaps_of ws) n) < n → 1 ≡ put_code ws len i n
  put_other h k = go (all_fit ws len (used_of ws)) (rw (lt-leb n (room (gap_for (gaps_of ws) n)) k) at (passed (put_code ws len i n) h refl).1)
    where
      go : (b : Bool) → pick b 1 16 ≡ put_code ws len i n → 1 ≡ put_code ws len i n
      go true e = e
      go false e = absurd (omega arith)

-- moving together, on any words: the totals, how many words, how many bytes
pub record Kept (s t : Pack) : Type 0 where
  pub totals : totals_at t.words ≡ totals_at s.words
  pub long : length t.words ≡ length s.words
  pub same : length t.store ≡ length s.store

turn_kept : (s : Pack) → Kept s (turn s)
unfolding turn turn_at
turn_kept s = go (leb 1024 (least s.words s.cursor 1024)) (lies (place_of s.words r) (size_of s.words r) (length s.store))
  where
    r : ℕ
    r = least s.words s.cursor 1024

    go : (t u : Bool) → Kept s (pick t s (pick u (pack (put_place s.words r s.cursor) (moved s.store (place_of s.words r) s.cursor (size_of s.words r)) (s.cursor + size_of s.words r)) s))
    go true u = record { totals = refl; long = refl; same = refl }
    go false false = record { totals = refl; long = refl; same = refl }
    go false true = record { totals = place_totals s.words r s.cursor; long = place_length s.words r s.cursor; same = moved_length s.store (place_of s.words r) s.cursor (size_of s.words r) }

turns_kept : (s : Pack) (k : ℕ) → Kept s (turns s k)
unfolding turns
turns_kept s zero = record { totals = refl; long = refl; same = refl }
turns_kept s (suc k) =
    let a = turns_kept s k in
    let b = turn_kept (turns s k) in
    record { totals = b.totals ∙ a.totals; long = b.long ∙ a.long; same = b.same ∙ a.same }

pub together_kept : (ws st ws1 st1 : List ℕ) (cur : ℕ) → pack ws1 st1 cur ≡ together ws st → Kept (pack ws st 0) (pack ws1 st1 cur)
unfolding together
together_kept ws st ws1 st1 cur e = rw e (turns_kept (pack ws st 0) (length st))

-- the gap that is found lies in the store
pub room_found : (ws : List ℕ) (used len n i : ℕ) (f : Gaps) → f ≡ found ws used len → i < 1024 → n ≤ f.limit - f.end → used_of ws + n ≤ len
    → (i < 1024) × (f.end + n ≤ len) × (used_of ws + n ≤ len)
room_found ws used len n i f ef h a u = (h, omega (arith, (found_gap ws used len f ef).0, (found_gap ws used len f ef).1), u)

-- the ways out of put_elsewhere
module _ (ws st bs : List ℕ) (i : ℕ) (s : Totals) (f : Gaps) (es : s ≡ totals_at ws) (eg : f ≡ found ws s.used (length st)) where
  ef : f ≡ found ws (used_of ws) (length st)
  ef = rw es at eg

  pub out_found : (o : Outcome) → length bs ≤ f.limit - f.end → o ≡ placed ws st f i bs → o ≡ put_elsewhere ws st i bs
  unfolding put_elsewhere
  out_found o a eo = rw (← ef, le-leb (length bs) (room f) a) eo

  pub out_moved : (o : Outcome) (ws1 st1 : List ℕ) (cur : ℕ) (t : Totals) → f.limit - f.end < length bs → pack ws1 st1 cur ≡ together ws st → t ≡ totals_at ws1
      → o ≡ placed ws1 st1 (gaps t.used (length st) 0 0) i bs → o ≡ put_elsewhere ws st i bs
  unfolding put_elsewhere
  out_moved o ws1 st1 cur t a em et eo =
      rw (← ef, lt-leb (length bs) (room f) a, ← em) (eo ∙ ap (λ (x : Totals). placed ws1 st1 (gaps x.used (length st) 0 0) i bs) et)

pub room_after : (ws st ws1 st1 : List ℕ) (cur : ℕ) (t : Totals) (i n : ℕ) → pack ws1 st1 cur ≡ together ws st → t ≡ totals_at ws1 → i < 1024 → used_of ws + n ≤ length st
    → (i < 1024) × (t.used + n ≤ length st1) × (used_of ws1 + n ≤ length st1)
room_after ws st ws1 st1 cur t i n e et h r =
    let k = together_kept ws st ws1 st1 cur e in
    let u : used_of ws1 ≡ used_of ws = ap (λ (x : Totals). x.used) k.totals in
    (h, rw et (omega (arith, u, k.same)), omega (arith, u, k.same))

-- the ways out of put_payload
module _ (ws st bs : List ℕ) (i code : ℕ) (ec : code ≡ put_code ws (length st) i (length bs)) where
  pub out_end : (o : Outcome) (t : Totals) (g : Gaps) → code ≡ 0 → t ≡ totals_at ws → g ≡ gap_for t.gaps (length bs) → o ≡ placed ws st g i bs → o ≡ put_payload ws st i bs
  unfolding put_payload
  out_end o t g e et eg eo =
      rw (eq-eqb (put_code ws (length st) i (length bs)) 0 (sym ec ∙ e))
      (eo ∙ (ap (λ (x : Gaps). placed ws st x i bs) eg ∙ ap (λ (x : Totals). placed ws st (gap_for x.gaps (length bs)) i bs) et))

  pub out_elsewhere : (o : Outcome) → code ≡ 1 → o ≡ put_elsewhere ws st i bs → o ≡ put_payload ws st i bs
  unfolding put_payload
  out_elsewhere o e eo = rw (ne_eqb (put_code ws (length st) i (length bs)) 0 (λ z. omega arith), eq-eqb (put_code ws (length st) i (length bs)) 1 (sym ec ∙ e)) eo

  pub out_refused : (code ≡ 0 → ⊥) → (code ≡ 1 → ⊥) → outcome code ws st ≡ put_payload ws st i bs
  unfolding put_payload
  out_refused n0 n1 =
      rw (ne_eqb (put_code ws (length st) i (length bs)) 0 (λ z. n0 (ec ∙ z)), ne_eqb (put_code ws (length st) i (length bs)) 1 (λ z. n1 (ec ∙ z)), ec)

pub ok_before : (ws : List ℕ) (len i n code : ℕ) → code ≡ put_code ws len i n → code ≡ 1 → PutOk ws len i n
ok_before ws len i n code ec e = (put_one ws len i n (sym ec ∙ e)).0

-- Where a payload has room its number is 0 or 1; where it has none it is above.
pub room_may : (a : Room) {n : ℕ} → put_number (Ok a) ≡ n → n ≤ 1
room_may KnownGap e = omega (arith, e)
room_may Elsewhere e = omega (arith, e)

pub room_above : (e : NoRoom) → 1 < no_room_number e
room_above StoreFull = omega arith
room_above Broken = omega arith
