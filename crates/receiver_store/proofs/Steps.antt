-- One turn of each loop, over plain values: r is what the whole loop comes to. Assumes nothing.
use mathlib.Core.Path.{◌≡◌, refl, sym, ap, ◌∙◌}
use mathlib.Core.Bool.{Bool, true, false, ◌&&◌}
use mathlib.Core.List.{List, [], ◌∷◌}
use Prim.Native.Nat.{ℕ, suc, ◌+◌, ◌-◌, ◌≤◌, ◌<◌}
use native.Mathlib.Omega.{arith}
use borrow.Author.Tests.{le-leb, lt-leb}
use lib.Dec.{leb, eqb}
use lib.Pointwise.{pointwise}
use Rattle.receiver_model.specs.Lists.{same_list}
use Rattle.payload_store.specs.Moving.{Pack}
use Rattle.receiver_words.specs.Ages.{older, newer}
use Rattle.receiver_store.specs.Words.{place_of, size_of}
use Rattle.receiver_store.specs.Packing.{misplaced, start, nowhere, start_from, move_row, pack_from}
use Rattle.receiver_store.specs.declared.packing.Start.{Start}

-- ------------------------------------------------------------------ find_start

module _ (ws : List ℕ) (goal p row high sum n : ℕ) (r : Start) (h : n < 4097) (inv : start_from (4097 - n) ws goal p row high sum ≡ r) where
  s : 4097 - n ≡ suc (4097 - (n + 1))
  s = omega arith

  pub start_none : 4096 ≤ p → start (leb sum goal) row 0 sum ≡ r
  unfolding start_from
  start_none g =
      let w : start_from (4097 - n) ws goal p row high sum ≡ start (leb sum goal) row 0 sum = rw (s, le-leb _ _ g) in
      sym w ∙ inv

  module _ (place size : ℕ) (out : Bool) (g : p < 4096) (ep : place ≡ place_of ws p) (es : size ≡ size_of ws p) (eo : out ≡ misplaced 0 high place size) where
    m : misplaced 0 high (place_of ws p) (size_of ws p) ≡ out
    m = rw (← ep, ← es) (sym eo)

    pub start_out : out ≡ true → nowhere ≡ r
    unfolding start_from
    start_out t =
        let w : start_from (4097 - n) ws goal p row high sum ≡ nowhere = rw (s, lt-leb _ _ g, m, t) in
        sym w ∙ inv

    pub start_here : out ≡ false → place + size + sum ≤ goal → start true row (place + size) (place + size + sum) ≡ r
    unfolding start_from
    start_here t o =
        let w : start_from (4097 - n) ws goal p row high sum ≡ start true row (place_of ws p + size_of ws p) (place_of ws p + size_of ws p + sum) =
        rw (s, lt-leb _ _ g, m, t, le-leb _ _ (rw (ep, es) at o)) in
        rw (ep, es) (sym w ∙ inv)

    pub start_next : (v : ℕ) → out ≡ false → goal < place + size + sum → v ≡ older ws p → start_from (4097 - (n + 1)) ws goal v p place (sum + size) ≡ r
    unfolding start_from
    start_next v t o ev =
        let w : start_from (4097 - n) ws goal p row high sum ≡ start_from (4097 - (n + 1)) ws goal (older ws p) p (place_of ws p) (sum + size_of ws p) =
        rw (s, lt-leb _ _ g, m, t, lt-leb _ _ (rw (ep, es) at o)) in
        rw (ev, ep, es) (sym w ∙ inv)

pub start_end : (ws : List ℕ) (goal p row high sum n : ℕ) (r : Start) → 4097 ≤ n → start_from (4097 - n) ws goal p row high sum ≡ r → nowhere ≡ r
unfolding start_from
start_end ws goal p row high sum n r h inv =
    let s : 4097 - n ≡ 0 = omega arith in
    let w : start_from (4097 - n) ws goal p row high sum ≡ nowhere = rw s in
    sym w ∙ inv

-- ------------------------------------------------------------------ move_rows

pub pack_none : (s : Pack) (p n : ℕ) (r : Pack) → n < 4096 → 4096 ≤ p → pack_from (4096 - n) s p ≡ r → s ≡ r
unfolding pack_from
pack_none s p n r h g inv =
    let k : 4096 - n ≡ suc (4096 - (n + 1)) = omega arith in
    let w : pack_from (4096 - n) s p ≡ s = rw (k, le-leb _ _ g) in
    sym w ∙ inv

pub pack_next : (s : Pack) (p n : ℕ) (r s' : Pack) (v : ℕ) → n < 4096 → p < 4096 → v ≡ newer s.words p → s' ≡ move_row s p → pack_from (4096 - n) s p ≡ r → pack_from (4096 - (n + 1)) s' v ≡ r
unfolding pack_from
pack_next s p n r s' v h g ev es inv =
    let k : 4096 - n ≡ suc (4096 - (n + 1)) = omega arith in
    let w : pack_from (4096 - n) s p ≡ pack_from (4096 - (n + 1)) (move_row s p) (newer s.words p) = rw (k, lt-leb _ _ g) in
    rw (es, ev) (sym w ∙ inv)

pub pack_end : (s : Pack) (p n : ℕ) (r : Pack) → 4096 ≤ n → pack_from (4096 - n) s p ≡ r → s ≡ r
unfolding pack_from
pack_end s p n r h inv =
    let k : 4096 - n ≡ 0 = omega arith in
    let w : pack_from (4096 - n) s p ≡ s = rw k in
    sym w ∙ inv

-- ------------------------------------------------------------------ same_bytes

pub pairs_same : (a b : List ℕ) → pointwise eqb a b ≡ same_list a b
unfolding same_list
pairs_same [] [] = refl
pairs_same [] (y ∷ ys) = refl
pairs_same (x ∷ xs) [] = refl
pairs_same (x ∷ xs) (y ∷ ys) = ap (λ t. eqb x y && t) (pairs_same xs ys)
