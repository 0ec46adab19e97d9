-- Putting a payload where the invariant holds: the row then has it, every other row has its own, and no payload is refused for which the free bytes
-- suffice. Assumes nothing.
use mathlib.Core.Path.{◌≡◌, refl, sym, ap, ◌∙◌}
use mathlib.Core.Logic.{◌⊎◌, inl, inr, ⊎_elim}
use mathlib.Core.Bool.{Bool, true, false}
use mathlib.Core.List.{List, ◌++◌}
use Prim.Native.Nat.{ℕ, ◌+◌, ◌-◌, ◌≤◌, ◌<◌}
use native.Mathlib.Omega.{arith}
use borrow.Author.Tests.{lt-ltb, le-ltb, le-leb, lt-leb}
use lib.ListN.{length, get_or, take, drop, length-append, length-drop, get_or-append}
use lib.Seq.{length-take-le, take_at, drop_at, get_or-take, get_or-drop, get_or-append-add}
use Rattle.queue_words.specs.Header.{totals_at}
use Rattle.queue_words.specs.declared.header.Gaps.{Gaps}
use Rattle.queue_words.specs.declared.header.Totals.{Totals}
use Rattle.queue_words.specs.Items.{put_place, put_length}
use Rattle.payload_store.specs.Words.{used_of, gaps_of, place_of, size_of, put_bytes}
use Rattle.payload_store.specs.Gaps.{gaps, room, gaps_wrong, gap_for}
use Rattle.payload_store.specs.Searching.{found}
use Rattle.payload_store.specs.Moving.{Pack, together}
use Rattle.payload_store.specs.Putting.{all_fit, Outcome, outcome, written, placed, put_code, put_elsewhere, put_payload}
use Rattle.payload_store.specs.Good.{payload_of, sum_to, Apart, Lay, GoodPayloads}
use Rattle.payload_store.specs.Promise.{Together, Put}
use Rattle.payload_store.proofs.Cases.{by_index}
use Rattle.payload_store.proofs.Laws.{place_length, place_same, place_other, place_size, size_length, size_same, size_other, size_place, bytes_length, bytes_place, bytes_size, bytes_used, bytes_gaps}
use Rattle.payload_store.proofs.Sums.{sum_one}
use Rattle.payload_store.proofs.Tests.{all_true, true_all, out_end, out_found, out_moved, out_elsewhere, out_refused}
use Rattle.payload_store.proofs.Clear.{ordered_right, lay_ordered, for_lay}
use Rattle.payload_store.proofs.Found.{found_lay}
use Rattle.payload_store.proofs.Together.{payload_same, together_law}
use Rattle.payload_store.proofs.Goods.{used_fits}
use Rattle.queue_words.proofs.Finds.{by_lt}

-- what is written into the middle of a store
module _ (st : List ℕ) (at : ℕ) (bs : List ℕ) (h : at + length bs ≤ length st) where
  front : length (take at st) ≡ at
  front = length-take-le at st (omega arith)

  pub written_length : length (written st at bs) ≡ length st
  written_length = simp (length-append, length-drop) (omega (arith, front))

  pub written_below : (j : ℕ) → j < at → get_or (written st at bs) j 0 ≡ get_or st j 0
  written_below j l = get_or-append (take at st) (bs ++ drop (at + length bs) st) 0 j (omega (arith, front)) ∙ get_or-take at st j 0 l

  pub written_above : (j : ℕ) → at + length bs ≤ j → get_or (written st at bs) j 0 ≡ get_or st j 0
  written_above j l =
      let k = j - (at + length bs) in
      let e : j ≡ length (take at st) + (length bs + k) = omega (arith, front) in
      let z : at + length bs + k ≡ j = omega arith in
      ap (λ m. get_or (written st at bs) m 0) e
      ∙ (get_or-append-add (take at st) (bs ++ drop (at + length bs) st) (length bs + k) 0
      ∙ (get_or-append-add bs (drop (at + length bs) st) k 0
      ∙ (get_or-drop (at + length bs) st k 0 ∙ ap (λ m. get_or st m 0) z)))

  pub written_part : take (length bs) (drop at (written st at bs)) ≡ bs
  written_part =
      ap (take (length bs)) (drop_at (take at st) (bs ++ drop (at + length bs) st) at front) ∙ take_at bs (drop (at + length bs) st) (length bs) refl

-- the words after a put
module _ (ws : List ℕ) (r at n u : ℕ) (e : Gaps) (l : length ws ≡ 20768) (h : r < 1024) where
  abbrev After : List ℕ
  After = put_bytes (put_length (put_place ws r at) r n) u e

  l1 : length (put_place ws r at) ≡ 20768
  l1 = place_length ws r at ∙ l

  l2 : length (put_length (put_place ws r at) r n) ≡ 20768
  l2 = size_length (put_place ws r at) r n ∙ l1

  after_length : length After ≡ 20768
  after_length = bytes_length (put_length (put_place ws r at) r n) u e ∙ l2

  after_used : used_of After ≡ u
  after_used = bytes_used (put_length (put_place ws r at) r n) u e l2

  after_gaps : gaps_of After ≡ e
  after_gaps = bytes_gaps (put_length (put_place ws r at) r n) u e l2

  place_new : place_of After r ≡ at
  place_new = bytes_place (put_length (put_place ws r at) r n) u e r ∙ (size_place (put_place ws r at) r n r ∙ place_same ws r at l h)

  place_old : (j : ℕ) → (r ≡ j → ⊥) → place_of After j ≡ place_of ws j
  place_old j ne = bytes_place (put_length (put_place ws r at) r n) u e j ∙ (size_place (put_place ws r at) r n j ∙ place_other ws r at j ne)

  size_new : size_of After r ≡ n
  size_new = bytes_size (put_length (put_place ws r at) r n) u e r ∙ size_same (put_place ws r at) r n l1 h

  size_old : (j : ℕ) → (r ≡ j → ⊥) → size_of After j ≡ size_of ws j
  size_old j ne = bytes_size (put_length (put_place ws r at) r n) u e j ∙ (size_other (put_place ws r at) r n j ne ∙ place_size ws r at j)

module _ (ws st : List ℕ) (g : Gaps) (r : ℕ) (bs : List ℕ) (l : Lay ws st g) (h : r < 1024) (dead : size_of ws r ≡ 0) (roomy : g.end + length bs ≤ g.limit) where
  abbrev n : ℕ
  n = length bs

  abbrev g' : Gaps
  g' = gaps (g.end + n) g.limit g.from g.upto

  abbrev ws' : List ℕ
  ws' = put_bytes (put_length (put_place ws r g.end) r n) (used_of ws + n) g'

  fits : g.end + n ≤ length st
  fits = omega (arith, roomy, l.limit_in)

  pn : place_of ws' r ≡ g.end
  pn = place_new ws r g.end n (used_of ws + n) g' l.long h

  sn : size_of ws' r ≡ n
  sn = size_new ws r g.end n (used_of ws + n) g' l.long h

  po : (j : ℕ) → (r ≡ j → ⊥) → place_of ws' j ≡ place_of ws j
  po = place_old ws r g.end n (used_of ws + n) g' l.long h

  so : (j : ℕ) → (r ≡ j → ⊥) → size_of ws' j ≡ size_of ws j
  so = size_old ws r g.end n (used_of ws + n) g' l.long h

  -- another payload lies below the new one, or above it
  beside : (j : ℕ) → j < 1024 → 1 ≤ size_of ws j → (place_of ws j + size_of ws j ≤ g.end) ⊎ (g.end + n ≤ place_of ws j)
  beside j hj s = ⊎_elim (λ a. inl a) (λ a. inr (omega (arith, roomy))) (l.clear j hj s)

  apart_put : Apart ws'
  apart_put i j hi hj ne si sj =
      by_index r i
      (λ e. let nj : r ≡ j → ⊥ = λ z. ne (sym e ∙ z) in
      let p : place_of ws' r ≡ place_of ws' i = ap (place_of ws') e in
      let z : size_of ws' r ≡ size_of ws' i = ap (size_of ws') e in
      ⊎_elim (λ a. inr (omega (arith, pn, po j nj, so j nj))) (λ a. inl (omega (arith, pn, sn, po j nj)))
      (beside j hj (omega (arith, so j nj))))
      (λ ni. by_index r j
      (λ e. let p : place_of ws' r ≡ place_of ws' j = ap (place_of ws') e in
      let z : size_of ws' r ≡ size_of ws' j = ap (size_of ws') e in
      ⊎_elim (λ a. inl (omega (arith, pn, po i ni, so i ni))) (λ a. inr (omega (arith, pn, sn, po i ni)))
      (beside i hi (omega (arith, so i ni))))
      (λ nj. ⊎_elim (λ a. inl (omega (arith, po i ni, so i ni, po j nj, so j nj))) (λ a. inr (omega (arith, po i ni, so i ni, po j nj, so j nj)))
      (l.apart i j hi hj ne (omega (arith, so i ni)) (omega (arith, so j nj)))))

  lay_put : Lay ws' (written st g.end bs) g'
  lay_put = record {
    long = after_length ws r g.end n (used_of ws + n) g' l.long h;
    limit_in = omega (arith, written_length st g.end bs fits, l.limit_in);
    end_in = roomy;
    upto_in = omega (arith, written_length st g.end bs fits, l.upto_in);
    from_in = l.from_in;
    beside = ⊎_elim (λ a. inl (omega arith)) (λ a. inr a) l.beside;
    inside = λ i hi. by_index r i
        (λ e. omega (arith, ap (place_of ws') e, ap (size_of ws') e, pn, sn, written_length st g.end bs fits, fits))
        (λ ne. omega (arith, po i ne, so i ne, l.inside i hi, written_length st g.end bs fits));
    clear = λ i hi s. by_index r i
        (λ e. inl (omega (arith, ap (place_of ws') e, ap (size_of ws') e, pn, sn)))
        (λ ne. ⊎_elim (λ a. inl (omega (arith, po i ne, so i ne))) (λ a. inr (omega (arith, po i ne))) (l.clear i hi (omega (arith, so i ne))));
    aside = λ i hi s. by_index r i
        (λ e. ⊎_elim (λ a. inr (omega (arith, ap (place_of ws') e, pn))) (λ a. inl (omega (arith, ap (place_of ws') e, ap (size_of ws') e, pn, sn, a.0, roomy))) l.beside)
        (λ ne. ⊎_elim (λ a. inl (omega (arith, po i ne, so i ne))) (λ a. inr (omega (arith, po i ne))) (l.aside i hi (omega (arith, so i ne))));
    apart = apart_put;
    used_is = omega (
      arith,
      after_used ws r g.end n (used_of ws + n) g' l.long h,
      l.used_is,
      sum_one (size_of ws) (size_of ws') r 1024 h (λ j b ne. so j ne),
      sn,
    );
  }

  new_bytes : payload_of ws' (written st g.end bs) r ≡ bs
  unfolding payload_of
  new_bytes = rw (pn, sn) (written_part st g.end bs fits)

  other_byte : (j k : ℕ) → j < 1024 → 1 ≤ size_of ws j → k < size_of ws j → get_or (written st g.end bs) (place_of ws j + k) 0 ≡ get_or st (place_of ws j + k) 0
  other_byte j k hj s b = ⊎_elim
      (λ a. written_below st g.end bs fits (place_of ws j + k) (omega arith))
      (λ a. written_above st g.end bs fits (place_of ws j + k) (omega arith))
      (beside j hj s)

  pub placed_law : Put ws st r bs (placed ws st g r bs)
  unfolding placed
  placed_law = record {
    accepted = refl;
    good = rw (after_gaps ws r g.end n (used_of ws + n) g' l.long h) lay_put;
    same = written_length st g.end bs fits;
    used = after_used ws r g.end n (used_of ws + n) g' l.long h;
    new_size = sn;
    new = new_bytes;
    sizes = so;
    others = λ j hj ne s. payload_same ws st ws' (written st g.end bs) j (so j ne) (l.inside j hj)
        (omega (arith, po j ne, l.inside j hj, written_length st g.end bs fits))
        (λ k b. rw (po j ne) (other_byte j k hj s b));
  }

-- the test passes
module _ (ws st : List ℕ) (r n : ℕ) (g : GoodPayloads ws st) (h : r < 1024) (dead : size_of ws r ≡ 0) (fits : used_of ws + n ≤ length st) where
  ordered : gaps_wrong (gaps_of ws) (length st) ≡ false
  ordered = ordered_right (gaps_of ws) (length st) (lay_ordered ws st (gaps_of ws) g)

  code_end : n ≤ room (gap_for (gaps_of ws) n) → put_code ws (length st) r n ≡ 0
  unfolding put_code
  code_end a = rw (
    lt-leb 1024 r h,
    le-ltb 0 (size_of ws r) (omega arith),
    le-ltb (length st) (used_of ws) (omega arith),
    le-ltb (length st - used_of ws) n (omega arith),
    ordered,
    le-leb n (room (gap_for (gaps_of ws) n)) a,
  )

  code_elsewhere : room (gap_for (gaps_of ws) n) < n → put_code ws (length st) r n ≡ 1
  unfolding put_code
  code_elsewhere a = rw (
    lt-leb 1024 r h,
    le-ltb 0 (size_of ws r) (omega arith),
    le-ltb (length st) (used_of ws) (omega arith),
    le-ltb (length st - used_of ws) n (omega arith),
    ordered,
    lt-leb n (room (gap_for (gaps_of ws) n)) a,
    true_all ws (length st) (used_of ws) (record { inside = g.inside }) (sym g.used_is),
  )

-- and fails
module _ (ws : List ℕ) (len r n : ℕ) (h : r < 1024) (dead : size_of ws r ≡ 0) where
  code_full : used_of ws ≤ len → len < used_of ws + n → put_code ws len r n ≡ 8
  unfolding put_code
  code_full u f = rw (lt-leb 1024 r h, le-ltb 0 (size_of ws r) (omega arith), le-ltb len (used_of ws) u, lt-ltb (len - used_of ws) n (omega arith))

  code_wrong : used_of ws + n ≤ len → gaps_wrong (gaps_of ws) len ≡ false → room (gap_for (gaps_of ws) n) < n → all_fit ws len (used_of ws) ≡ false → put_code ws len r n ≡ 16
  unfolding put_code
  code_wrong fits o tight bad = rw (
    lt-leb 1024 r h,
    le-ltb 0 (size_of ws r) (omega arith),
    le-ltb len (used_of ws) (omega arith),
    le-ltb (len - used_of ws) n (omega arith),
    o,
    lt-leb n (room (gap_for (gaps_of ws) n)) tight,
    bad,
  )

-- a put after moving together, as seen from before
after_moving : (ws st : List ℕ) (t : Pack) (r : ℕ) (bs : List ℕ) (o : Outcome) → Together ws st t → Put t.words t.store r bs o → Put ws st r bs o
after_moving ws st t r bs o m p = record {
  accepted = p.accepted;
  good = p.good;
  same = p.same ∙ m.same;
  used = p.used ∙ ap (λ (t : Totals). t.used + length bs) m.totals;
  new_size = p.new_size;
  new = p.new;
  sizes = λ j ne. p.sizes j ne ∙ m.sizes j;
  others = λ j hj ne s. p.others j hj ne (omega (arith, m.sizes j)) ∙ m.bytes j hj s;
}

-- elsewhere: in the gap that is found, or after moving together
elsewhere_law : (ws st : List ℕ) (r : ℕ) (bs : List ℕ) → GoodPayloads ws st → r < 1024 → size_of ws r ≡ 0 → used_of ws + length bs ≤ length st → Put ws st r bs (put_elsewhere ws st r bs)
elsewhere_law ws st r bs g h dead fits =
    let f = found ws (used_of ws) (length st) in
    let l = found_lay ws st (gaps_of ws) g in
    by_lt (room f) (length bs)
    (λ a. let m = together_law ws st (gaps_of ws) g in
    let t = together ws st in
    let u : used_of t.words ≡ used_of ws = ap (λ (x : Totals). x.used) m.totals in
    let p = gaps (used_of t.words) (length st) 0 0 in
    let e : placed t.words t.store p r bs ≡ put_elsewhere ws st r bs =
    out_moved ws st bs r (totals_at ws) f refl refl (placed t.words t.store p r bs) t.words t.store t.cursor (totals_at t.words) a refl refl refl in
    rw (← e) (after_moving ws st t r bs (placed t.words t.store p r bs) m
    (placed_law t.words t.store p r bs (rw u m.lay) h (m.sizes r ∙ dead) (omega (arith, u)))))
    (λ a. let e : placed ws st f r bs ≡ put_elsewhere ws st r bs = out_found ws st bs r (totals_at ws) f refl refl (placed ws st f r bs) a refl in
    rw (← e) (placed_law ws st f r bs l h dead (omega (arith, l.end_in))))

-- THE THEOREM of putting
pub put_law : (ws st : List ℕ) (r : ℕ) (bs : List ℕ) → GoodPayloads ws st → r < 1024 → size_of ws r ≡ 0 → used_of ws + length bs ≤ length st → Put ws st r bs (put_payload ws st r bs)
put_law ws st r bs g h dead fits =
    let f = gap_for (gaps_of ws) (length bs) in
    let l = for_lay ws st (gaps_of ws) (length bs) g in
    by_lt (room f) (length bs)
    (λ a. let c = code_elsewhere ws st r (length bs) g h dead fits a in
    let e : put_elsewhere ws st r bs ≡ put_payload ws st r bs = out_elsewhere ws st bs r 1 (sym c) (put_elsewhere ws st r bs) refl refl in
    rw (← e) (elsewhere_law ws st r bs g h dead fits))
    (λ a. let c = code_end ws st r (length bs) g h dead fits a in
    let e : placed ws st f r bs ≡ put_payload ws st r bs = out_end ws st bs r 0 (sym c) (placed ws st f r bs) (totals_at ws) f refl refl refl refl in
    rw (← e) (placed_law ws st f r bs l h dead (omega (arith, l.end_in))))

-- and one for which they do not is refused, and changes nothing
pub put_full : (ws st : List ℕ) (r : ℕ) (bs : List ℕ) → GoodPayloads ws st → r < 1024 → size_of ws r ≡ 0 → length st < used_of ws + length bs → put_payload ws st r bs ≡ outcome 8 ws st
put_full ws st r bs g h dead full =
    let c = code_full ws (length st) r (length bs) h dead (used_fits ws st (gaps_of ws) g) full in
    sym (out_refused ws st bs r 8 (sym c) (λ z. omega arith) (λ z. omega arith))

-- used bytes that are not the sum of the lengths, of all rows or of some first ones, are noticed before anything is searched or moved
pub put_notices : (ws st : List ℕ) (r : ℕ) (bs : List ℕ) → r < 1024 → size_of ws r ≡ 0 → used_of ws + length bs ≤ length st → gaps_wrong (gaps_of ws) (length st) ≡ false
    → room (gap_for (gaps_of ws) (length bs)) < length bs → ((n : ℕ) → n ≤ 1024 → sum_to (size_of ws) n ≡ used_of ws → ⊥) → put_payload ws st r bs ≡ outcome 16 ws st
put_notices ws st r bs h dead fits o tight wrong =
    let c = code_wrong ws (length st) r (length bs) h dead fits o tight (not_all (all_fit ws (length st) (used_of ws)) refl) in
    sym (out_refused ws st bs r 16 (sym c) (λ z. omega arith) (λ z. omega arith))
  where
    not_all : (t : Bool) → all_fit ws (length st) (used_of ws) ≡ t → all_fit ws (length st) (used_of ws) ≡ false
    not_all true q = let s = all_true ws (length st) (used_of ws) q in absurd (wrong s.rows s.few s.sum)
    not_all false q = q
