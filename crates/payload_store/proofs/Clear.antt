-- The known gaps: their test, and what the gap chosen for a payload and the gaps left by a dropped one are. Assumes nothing.
use mathlib.Core.Path.{◌≡◌, sym, ◌∙◌}
use mathlib.Core.Logic.{◌⊎◌, inl, inr}
use mathlib.Core.Bool.{Bool, true, false}
use mathlib.Core.List.{List}
use Prim.Native.Nat.{ℕ, ◌≤◌, ◌<◌}
use native.Mathlib.Omega.{arith}
use borrow.Author.Tests.{le-ltb, ltb-false}
use lib.Dec.{ltb, leb}
use lib.ListN.{length}
use Rattle.queue_words.specs.Flags.{pick}
use Rattle.queue_words.specs.declared.header.Gaps.{Gaps}
use Rattle.payload_store.specs.Gaps.{room, spare, turned, gaps_wrong, near, gap_for}
use Rattle.payload_store.specs.Good.{ClearOf, Lay}
use Rattle.payload_store.proofs.Cases.{pick_else, false_true}

-- the gaps in their order, in a store of len bytes
pub record Ordered (g : Gaps) (len : ℕ) : Type 0 where
  pub limit_in : g.limit ≤ len
  pub end_in : g.end ≤ g.limit
  pub upto_in : g.upto ≤ len
  pub from_in : g.from ≤ g.upto

pub right_ordered : (g : Gaps) (len : ℕ) → gaps_wrong g len ≡ false → Ordered g len
unfolding gaps_wrong
right_ordered g len e =
    let t1 = pick_else (ltb len g.limit) true _ false (λ z. false_true (sym z)) e in
    let t2 = pick_else (ltb g.limit g.end) true _ false (λ z. false_true (sym z)) t1.1 in
    let t3 = pick_else (ltb len g.upto) true _ false (λ z. false_true (sym z)) t2.1 in
    record {
      limit_in = ltb-false len g.limit t1.0;
      end_in = ltb-false g.limit g.end t2.0;
      upto_in = ltb-false len g.upto t3.0;
      from_in = ltb-false g.upto g.from t3.1;
    }

pub ordered_right : (g : Gaps) (len : ℕ) → Ordered g len → gaps_wrong g len ≡ false
unfolding gaps_wrong
ordered_right g len o =
    rw (le-ltb len g.limit o.limit_in, le-ltb g.limit g.end o.end_in, le-ltb len g.upto o.upto_in, le-ltb g.upto g.from o.from_in)

-- the gap chosen is the one at the end, or the second one
pub for_cases : (P : Gaps → Type 0) (g : Gaps) (n : ℕ) → P g → P (turned g) → P (gap_for g n)
unfolding gap_for
for_cases P g n a b = go (ltb (spare g) n) (near g) (leb n (room g))
  where
    go : (s t u : Bool) → P (pick s g (pick t (turned g) (pick u g (turned g))))
    go true t u = a
    go false true u = b
    go false false true = a
    go false false false = b

pub for_ordered : (g : Gaps) (n len : ℕ) → Ordered g len → Ordered (gap_for g n) len
for_ordered g n len o =
    for_cases (λ h. Ordered h len) g n o
    (record { limit_in = o.upto_in; end_in = o.from_in; upto_in = omega arith; from_in = omega arith })

pub for_gap : (g f : Gaps) (n len : ℕ) (b : Bool) → b ≡ gaps_wrong g len → b ≡ false → f ≡ gap_for g n → f.end ≤ f.limit
for_gap g f n len b eb e ef = rw ef (for_ordered g n len (right_ordered g len (sym eb ∙ e))).end_in

-- other gaps for the same payloads
pub lay_with : (ws st : List ℕ) (g h : Gaps) → Lay ws st g → Ordered h (length st) → (h.upto ≤ h.end) ⊎ ((h.limit ≤ h.from) × (h.from < h.upto))
    → ClearOf ws h.end h.limit → ClearOf ws h.from h.upto → Lay ws st h
lay_with ws st g h l o b c a = record {
  long = l.long;
  limit_in = o.limit_in;
  end_in = o.end_in;
  upto_in = o.upto_in;
  from_in = o.from_in;
  beside = b;
  inside = l.inside;
  clear = c;
  aside = a;
  apart = l.apart;
  used_is = l.used_is;
}

pub lay_ordered : (ws st : List ℕ) (g : Gaps) → Lay ws st g → Ordered g (length st)
lay_ordered ws st g l = record { limit_in = l.limit_in; end_in = l.end_in; upto_in = l.upto_in; from_in = l.from_in }

-- every payload lies clear of the gap chosen
pub for_lay : (ws st : List ℕ) (g : Gaps) (n : ℕ) → Lay ws st g → Lay ws st (gap_for g n)
for_lay ws st g n l =
    for_cases (Lay ws st) g n l
    (lay_with ws st g (turned g) l
    (record { limit_in = l.upto_in; end_in = l.from_in; upto_in = omega arith; from_in = omega arith })
    (inl (omega arith)) l.aside (λ i h s. inr (omega arith)))
