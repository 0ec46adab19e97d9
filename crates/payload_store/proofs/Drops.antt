-- Dropping a payload: its test, its ways out, and what it leaves where the invariant holds. Assumes nothing.
use mathlib.Core.Path.{◌≡◌, refl, sym, ap, ◌∙◌}
use mathlib.Core.Logic.{◌⊎◌, inl, inr, ⊎_elim}
use mathlib.Core.Bool.{Bool, true, false}
use mathlib.Core.List.{List}
use Prim.Native.Nat.{ℕ, ◌+◌, ◌-◌, ◌≤◌, ◌<◌}
use native.Mathlib.Omega.{arith}
use borrow.Author.Tests.{lt-ltb, le-ltb, lt-leb, eq-eqb, ne_eqb, ltb-false, leb-false, eqb-false}
use lib.Dec.{ltb, leb, eqb}
use lib.ListN.{length}
use Rattle.queue_words.specs.Flags.{pick}
use Rattle.queue_words.specs.Header.{totals_at}
use Rattle.queue_words.specs.declared.header.Gaps.{Gaps}
use Rattle.queue_words.specs.declared.header.Totals.{Totals}
use Rattle.queue_words.specs.Items.{put_length}
use Rattle.payload_store.specs.Words.{used_of, gaps_of, place_of, size_of, put_bytes}
use Rattle.payload_store.specs.Gaps.{gaps, keeps, gaps_left}
use Rattle.payload_store.specs.Dropping.{drop_code_words, gaps_then, dropped, drop_payload}
use Rattle.payload_store.specs.Good.{payload_of, sum_to, ClearOf, GoodPayloads}
use Rattle.payload_store.specs.Promise.{Dropped}
use Rattle.payload_store.proofs.Cases.{by_index, pick_else}
use Rattle.payload_store.proofs.Laws.{size_length, size_same, size_other, size_place, bytes_length, bytes_place, bytes_size, bytes_used, bytes_gaps}
use Rattle.payload_store.proofs.Clear.{Ordered, lay_ordered}
use Rattle.payload_store.proofs.Sums.{sum_one, sum_has, sum_both}
use Rattle.queue_words.proofs.Finds.{by_lt}

pub record DropOk (ws : List ℕ) (i : ℕ) : Type 0 where
  pub row : i < 1024
  pub live : 1 ≤ size_of ws i
  pub in_used : size_of ws i ≤ used_of ws

pub drop_held : (ws : List ℕ) (i : ℕ) → drop_code_words ws i ≡ 0 → DropOk ws i
unfolding drop_code_words
drop_held ws i e =
    let t1 = pick_else (leb 1024 i) 16 _ 0 (λ z. omega arith) e in
    let t2 = pick_else (eqb (size_of ws i) 0) 16 _ 0 (λ z. omega arith) t1.1 in
    let t3 = pick_else (ltb (used_of ws) (size_of ws i)) 16 _ 0 (λ z. omega arith) t2.1 in
    let nz = eqb-false (size_of ws i) 0 t2.0 in
    record { row = leb-false 1024 i t1.0; live = omega arith; in_used = ltb-false (used_of ws) (size_of ws i) t3.0 }

-- the ways out of drop_payload
module _ (ws ws1 ws2 : List ℕ) (i size place : ℕ) (t : Totals) (g : Gaps) (z : drop_code_words ws i ≡ 0) (es : size ≡ size_of ws i) (ep : place ≡ place_of ws i)
    (et : t ≡ totals_at ws) (eg : g ≡ gaps_left t.gaps place size) (e1 : ws1 ≡ put_length ws i 0) where
  drop_done : (u : ℕ) (e : Gaps) → u ≡ t.used - size → e ≡ gaps_then ws i g → ws2 ≡ put_bytes ws1 u e → ws2 ≡ drop_payload ws i
  unfolding drop_payload dropped
  drop_done u e eu ee e2 = rw (eq-eqb (drop_code_words ws i) 0 z) (rw (e2, e1, ee, eg, eu, et, es, ep))

  then_all : t.used ≡ size → gaps 0 g.limit 0 0 ≡ gaps_then ws i g
  unfolding gaps_then
  then_all q = let z : used_of ws ≡ size_of ws i = rw (et, es) at q in rw (eq-eqb (used_of ws) (size_of ws i) z)

  then_some : (t.used ≡ size → ⊥) → g ≡ gaps_then ws i g
  unfolding gaps_then
  then_some q = rw (ne_eqb (used_of ws) (size_of ws i) (λ z. q (ap (λ (x : Totals). x.used) et ∙ (z ∙ sym es))))

  pub drop_all : t.used ≡ size → ws2 ≡ put_bytes ws1 0 (gaps 0 g.limit 0 0) → ws2 ≡ drop_payload ws i
  drop_all q e2 = drop_done 0 (gaps 0 g.limit 0 0) (omega arith) (then_all q) e2

  pub drop_some : (t.used ≡ size → ⊥) → ws2 ≡ put_bytes ws1 (t.used - size) g → ws2 ≡ drop_payload ws i
  drop_some q e2 = drop_done (t.used - size) g refl (then_some q) e2

-- every payload but row r's lies below a, or at or above b
abbrev ClearBut : List ℕ → ℕ → ℕ → ℕ → Type 0
ClearBut ws r a b = (i : ℕ) → i < 1024 → (r ≡ i → ⊥) → 1 ≤ size_of ws i → (place_of ws i + size_of ws i ≤ a) ⊎ (b ≤ place_of ws i)

-- gaps that every payload but row r's is clear of
record Clear (ws st : List ℕ) (r : ℕ) (g : Gaps) : Type 0 where
  order : Ordered g (length st)
  beside : (g.upto ≤ g.end) ⊎ ((g.limit ≤ g.from) × (g.from < g.upto))
  others : ClearBut ws r g.end g.limit
  asides : ClearBut ws r g.from g.upto

module _ (ws st : List ℕ) (r : ℕ) (l : GoodPayloads ws st) (h : r < 1024) (live : 1 ≤ size_of ws r) where
  abbrev g : Gaps
  g = gaps_of ws

  abbrev p : ℕ
  p = place_of ws r

  abbrev top : ℕ
  top = place_of ws r + size_of ws r

  order_is : Ordered g (length st)
  order_is = lay_ordered ws st g l

  same_clear : Clear ws st r g
  same_clear = record { order = order_is; beside = l.beside; others = λ i hi ne s. l.clear i hi s; asides = λ i hi ne s. l.aside i hi s }

  -- row r's payload begins at the upper end of a gap: the others there lie above it
  grown : (a b : ℕ) → p ≡ b → ClearOf ws a b → ClearBut ws r a top
  grown a b e c i hi ne s = ⊎_elim (λ x. inl x)
      (λ x. ⊎_elim (λ y. inr y) (λ y. absurd (omega arith)) (l.apart r i h hi ne live s))
      (c i hi s)

  limit_clear : p ≡ g.limit → Clear ws st r (gaps g.end top g.from g.upto)
  limit_clear e = record {
    order = record { limit_in = l.inside r h; end_in = omega (arith, l.end_in); upto_in = l.upto_in; from_in = l.from_in };
    beside = ⊎_elim (λ a. inl a) (λ a. ⊎_elim (λ b. inr (b, a.1)) (λ b. absurd (omega (arith, a.0, a.1))) (l.aside r h live)) l.beside;
    others = grown g.end g.limit e l.clear;
    asides = λ i hi ne s. l.aside i hi s;
  }

  upto_clear : (p ≡ g.limit → ⊥) → p ≡ g.upto → Clear ws st r (gaps g.end g.limit g.from top)
  upto_clear ne e = record {
    order = record { limit_in = l.limit_in; end_in = l.end_in; upto_in = l.inside r h; from_in = omega (arith, l.from_in) };
    beside = ⊎_elim
        (λ a. ⊎_elim (λ b. inl b) (λ b. absurd (ne (omega (arith, l.end_in)))) (l.clear r h live))
        (λ a. inr (a.0, omega (arith, a.1)))
        l.beside;
    others = λ i hi nr s. l.clear i hi s;
    asides = grown g.from g.upto e l.aside;
  }

  -- or elsewhere: it is the second gap then, or that stays
  new_clear : Clear ws st r (gaps g.end g.limit p top)
  new_clear = record {
    order = record { limit_in = l.limit_in; end_in = l.end_in; upto_in = l.inside r h; from_in = omega arith };
    beside = ⊎_elim (λ a. inl a) (λ a. inr (a, omega arith)) (l.clear r h live);
    others = λ i hi nr s. l.clear i hi s;
    asides = λ i hi nr s. ⊎_elim (λ a. inr a) (λ a. inl a) (l.apart r i h hi nr live s);
  }

  left_clear : Clear ws st r (gaps_left g (place_of ws r) (size_of ws r))
  unfolding gaps_left
  left_clear = by_lt (18446744073709551615 - p) (size_of ws r)
      (λ o. rw (lt-ltb (18446744073709551615 - p) (size_of ws r) o) same_clear)
      (λ o. by_index p g.limit
      (λ e. rw (le-ltb (18446744073709551615 - p) (size_of ws r) o, eq-eqb p g.limit e) (limit_clear e))
      (λ ne. by_index p g.upto
      (λ e. rw (le-ltb (18446744073709551615 - p) (size_of ws r) o, ne_eqb p g.limit ne, eq-eqb p g.upto e) (upto_clear ne e))
      (λ nu. rw (le-ltb (18446744073709551615 - p) (size_of ws r) o, ne_eqb p g.limit ne, ne_eqb p g.upto nu) (stays (keeps g (size_of ws r))))))
    where
      stays : (b : Bool) → Clear ws st r (pick b g (gaps g.end g.limit p top))
      stays true = same_clear
      stays false = new_clear

module _ (ws st : List ℕ) (r : ℕ) (e : Gaps) (g : GoodPayloads ws st) (h : r < 1024) (eo : Clear ws st r e) where
  abbrev ws' : List ℕ
  ws' = put_bytes (put_length ws r 0) (used_of ws - size_of ws r) e

  ll : length (put_length ws r 0) ≡ 20768
  ll = size_length ws r 0 ∙ g.long

  sn : size_of ws' r ≡ 0
  sn = bytes_size (put_length ws r 0) (used_of ws - size_of ws r) e r ∙ size_same ws r 0 g.long h

  so : (j : ℕ) → (r ≡ j → ⊥) → size_of ws' j ≡ size_of ws j
  so j ne = bytes_size (put_length ws r 0) (used_of ws - size_of ws r) e j ∙ size_other ws r 0 j ne

  po : (j : ℕ) → place_of ws' j ≡ place_of ws j
  po j = bytes_place (put_length ws r 0) (used_of ws - size_of ws r) e j ∙ size_place ws r 0 j

  sum' : sum_to (size_of ws') 1024 + size_of ws r ≡ used_of ws
  sum' = omega (arith, g.used_is, sn, sum_one (size_of ws) (size_of ws') r 1024 h (λ j l ne. so j ne))

  not_row : (i : ℕ) → 1 ≤ size_of ws' i → r ≡ i → ⊥
  not_row i s q = omega (arith, ap (size_of ws') q, sn)

  other_bytes : (j : ℕ) → (r ≡ j → ⊥) → payload_of ws' st j ≡ payload_of ws st j
  unfolding payload_of
  other_bytes j ne = rw (po j, so j ne)

  kept : (a b : ℕ) → ClearBut ws r a b → ClearOf ws' a b
  kept a b c i hi s =
      let ne = not_row i s in
      ⊎_elim (λ x. inl (omega (arith, po i, so i ne))) (λ x. inr (omega (arith, po i))) (c i hi ne (omega (arith, so i ne)))

  drop_lay : Dropped ws st r ws'
  drop_lay = record {
    good = rw (bytes_gaps (put_length ws r 0) (used_of ws - size_of ws r) e ll) (record {
      long = bytes_length (put_length ws r 0) (used_of ws - size_of ws r) e ∙ ll;
      limit_in = eo.order.limit_in;
      end_in = eo.order.end_in;
      upto_in = eo.order.upto_in;
      from_in = eo.order.from_in;
      beside = eo.beside;
      inside = λ i hi. by_index r i
          (λ q. omega (arith, ap (size_of ws') q, sn, po i, g.inside i hi))
          (λ ne. omega (arith, po i, so i ne, g.inside i hi));
      clear = kept e.end e.limit eo.others;
      aside = kept e.from e.upto eo.asides;
      apart = λ i j hi hj ne si sj.
          let ni = not_row i si in let nj = not_row j sj in
          ⊎_elim (λ l. inl (omega (arith, po i, so i ni, po j, so j nj))) (λ l. inr (omega (arith, po i, so i ni, po j, so j nj)))
          (g.apart i j hi hj ne (omega (arith, so i ni)) (omega (arith, so j nj)));
      used_is = omega (arith, bytes_used (put_length ws r 0) (used_of ws - size_of ws r) e ll, sum');
    });
    free = sn;
    used = omega (arith, bytes_used (put_length ws r 0) (used_of ws - size_of ws r) e ll, sum');
    sizes = so;
    others = other_bytes;
  }

-- where nothing is used any more, any gap in the store does
none_clear : (ws st : List ℕ) (r : ℕ) (g : Gaps) → GoodPayloads ws st → r < 1024 → used_of ws ≡ size_of ws r → Ordered g (length st) → Clear ws st r (gaps 0 g.limit 0 0)
none_clear ws st r g l h q o = record {
  order = record { limit_in = o.limit_in; end_in = omega arith; upto_in = omega arith; from_in = omega arith };
  beside = inl (omega arith);
  others = λ i hi ne s. absurd (omega (arith, q, l.used_is, sum_both (size_of ws) r i 1024 h hi ne));
  asides = λ i hi ne s. inr (omega arith);
}

-- THE THEOREM of dropping
pub drop_law : (ws st : List ℕ) (r : ℕ) → GoodPayloads ws st → r < 1024 → 1 ≤ size_of ws r → (drop_code_words ws r ≡ 0) × Dropped ws st r (drop_payload ws r)
unfolding drop_payload dropped drop_code_words gaps_then
drop_law ws st r g h s =
    let b : size_of ws r ≤ used_of ws = omega (arith, g.used_is, sum_has (size_of ws) r 1024 h) in
    let z : drop_code_words ws r ≡ 0 = rw (lt-leb 1024 r h, ne_eqb (size_of ws r) 0 (λ q. omega arith), le-ltb (used_of ws) (size_of ws r) b) in
    let f = gaps_left (gaps_of ws) (place_of ws r) (size_of ws r) in
    let c = left_clear ws st r g h s in (
      z,
      rw (eq-eqb (drop_code_words ws r) 0 z) (by_index (used_of ws) (size_of ws r)
          (λ q. rw (eq-eqb (used_of ws) (size_of ws r) q) (drop_lay ws st r (gaps 0 f.limit 0 0) g h (none_clear ws st r f g h q c.order)))
          (λ q. rw (ne_eqb (used_of ws) (size_of ws r) q) (drop_lay ws st r f g h c))),
    )
