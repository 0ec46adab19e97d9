-- Four rows seen at once: what their tests say of a search that would look at them one by one. Assumes nothing.
use mathlib.Core.Path.{◌≡◌, refl, sym, ap, ◌∙◌, subst}
use mathlib.Core.Bool.{Bool, true, false}
use mathlib.Core.List.{List}
use Prim.Native.Nat.{ℕ, zero, suc, ◌+◌, ◌-◌, ◌≤◌, ◌<◌, min}
use native.Mathlib.Omega.{arith}
use lib.Dec.{T, ltb}
use borrow.Author.Tests.{ltb-true, ltb-false, lt-ltb, le-ltb, eq-eqb, ne_eqb}
use Rattle.queue_model.proofs.Tests.{Tri, less, same, more, tri}
use Rattle.queue_words.specs.Active.{active_at}
use Rattle.queue_words.proofs.Laws.{active_at_fits}
use Rattle.queue_words.specs.declared.active.ActiveStreamInfo.{ActiveStreamInfo}
use Rattle.active_table.specs.declared.Best.{Best}
use Rattle.active_table.specs.Parts.{rows_from}
use Rattle.active_table.specs.Passing.{ids_behind_words, finish_of, latest, soonest, four_behind}
use Rattle.active_table.specs.Rows.{best_of, better, best_among}
use Rattle.active_table.proofs.Laws.{sooner, later, first_id, second_id}

-- ------------------------------------------------------------------ the ids

module _ (rows : ℕ → ActiveStreamInfo) (id : ℕ) where
  abbrev id_at : ℕ → ℕ
  id_at i = (rows i).stream_id.0

  -- one row: its id is below, or what is left are the rows behind it
  pub ids_hit : (i n : ℕ) → id_at i < id → ids_behind_words rows id i (suc n) ≡ false
  unfolding ids_behind_words
  ids_hit i n l = rw (lt-ltb _ _ l)

  pub ids_miss : (i n : ℕ) → id ≤ id_at i → ids_behind_words rows id i (suc n) ≡ ids_behind_words rows id (suc i) n
  unfolding ids_behind_words
  ids_miss i n l = rw (le-ltb _ _ l)

  pub ids_none : (i : ℕ) → ids_behind_words rows id i 0 ≡ true
  unfolding ids_behind_words
  ids_none i = refl

  -- Where none of n ids is below, each of them is this one or above.
  ids_at : (n i : ℕ) → ids_behind_words rows id i n ≡ true → (k : ℕ) → k < n → id ≤ id_at (i + k)
  ids_at zero i h = λ k l. absurd (omega arith)
  ids_at (suc n) i h = go (ltb (id_at i) id) refl (ids_at n (suc i))
    where
      go : (b : Bool) → ltb (id_at i) id ≡ b → (ids_behind_words rows id (suc i) n ≡ true → (k : ℕ) → k < n → id ≤ id_at (suc i + k)) → (k : ℕ) → k < suc n → id ≤ id_at (i + k)
      go true e ih k l = absurd (subst T (sym h ∙ ids_hit i n (ltb-true _ _ e)) tt)
      go false e ih zero l =
          let z : i + 0 ≡ i = omega arith in
          rw z (ltb-false _ _ e)
      go false e ih (suc k) l =
          let s : i + suc k ≡ suc i + k = omega arith in
          rw s (ih (sym (ids_miss i n (ltb-false _ _ e)) ∙ h) k (omega arith))

-- Row k of four, lent alone: its id is below, or what is left are those behind it.
module _ (ws : List ℕ) (from id k : ℕ) (b : Bool) (l : k < 4) (e : b ≡ ids_behind_words (rows_from ws (from + k)) id 0 1) where
  abbrev Left : ℕ → Bool
  Left i = ids_behind_words (rows_from ws from) id i (4 - i)

  one_more : Left k ≡ ids_behind_words (rows_from ws from) id k (suc (4 - (k + 1)))
  one_more =
      let s : 4 - k ≡ suc (4 - (k + 1)) = omega arith in
      ap (ids_behind_words (rows_from ws from) id k) s

  here : (from + k) + 0 ≡ from + k
  here = omega arith

  abbrev id_here : ℕ
  id_here = (rows_from ws from k).stream_id.0

  below : id_here < id → b ≡ false
  below m = e ∙ ids_hit (rows_from ws (from + k)) id 0 0 (subst (λ (j : ℕ). (active_at ws j).stream_id.0 < id) (sym here) m)

  behind : id ≤ id_here → b ≡ true
  behind m = e ∙ (ids_miss (rows_from ws (from + k)) id 0 0 (subst (λ (j : ℕ). id ≤ (active_at ws j).stream_id.0) (sym here) m) ∙ ids_none (rows_from ws (from + k)) id 1)

  pub one_below : b ≡ false → false ≡ Left k
  one_below f = go (tri id_here id)
    where
      go : Tri id_here id → false ≡ Left k
      go (less m) = sym (one_more ∙ ids_hit (rows_from ws from) id k _ m)
      go (same q) = cc (behind (omega arith))
      go (more m) = cc (behind (omega arith))

  pub one_behind : b ≡ true → Left k ≡ Left (k + 1)
  one_behind f = go (tri id_here id)
    where
      on : id ≤ id_here → Left k ≡ Left (k + 1)
      on m =
          let s : suc k ≡ k + 1 = omega arith in
          one_more ∙ (ids_miss (rows_from ws from) id k _ m ∙ ap (λ (j : ℕ). ids_behind_words (rows_from ws from) id j (4 - (k + 1))) s)

      go : Tri id_here id → Left k ≡ Left (k + 1)
      go (less m) = cc (below m)
      go (same q) = on (omega arith)
      go (more m) = on (omega arith)

pub four_end : (ws : List ℕ) (from id k : ℕ) → ids_behind_words (rows_from ws from) id 0 4 ≡ ids_behind_words (rows_from ws from) id k (4 - k) → 4 ≤ k → true ≡ ids_behind_words (rows_from ws from) id 0 4
four_end ws from id k inv g =
    let s : 4 - k ≡ 0 = omega arith in
    sym (inv ∙ (ap (ids_behind_words (rows_from ws from) id k) s ∙ ids_none (rows_from ws from) id k))

-- ------------------------------------------------------------------ the least row

-- A row that finishes no earlier than the best so far, nor with it and under a smaller id, leaves it the best.
row_behind : (best : Best) (row : ActiveStreamInfo) (i : ℕ) → best.finish ≤ row.virtual_finish_time → (row.virtual_finish_time ≤ best.finish → best.id ≤ row.stream_id.0) → better best (best_of row i) ≡ best
row_behind best row i l h = go (tri best.finish row.virtual_finish_time)
  where
    go : Tri best.finish row.virtual_finish_time → better best (best_of row i) ≡ best
    go (less m) = sym (sooner best row i m)
    go (same e) =
        let m : row.virtual_finish_time ≤ best.finish = omega arith in
        sym (first_id best row i m l (h m))
    go (more m) = absurd (omega arith)

-- So do n such rows.
rows_behind : (rows : ℕ → ActiveStreamInfo) (best : Best) (from n : ℕ) → ((k : ℕ) → k < n → better best (best_of (rows k) (from + k)) ≡ best) → best_among rows best from n ≡ best
unfolding best_among
rows_behind rows best from zero h = refl
rows_behind rows best from (suc n) h = rw (rows_behind rows best from n (λ k l. h k (omega arith))) (h n (omega arith))

-- The search starts behind every row, so that the first is the least of itself.
abbrev pub behind_all : ℕ → Best
behind_all at = record { id = 65535; at = at; finish = latest }

pub least_begins : (ws : List ℕ) (at : ℕ) (b : Best) → b ≡ best_among (rows_from ws at) (behind_all at) at 1 → finish_of (rows_from ws at) 0 ≤ latest → b ≡ best_of (active_at ws at) at
unfolding best_among
least_begins ws at b e l = e ∙ (ap (λ (j : ℕ). better (behind_all at) (best_of (active_at ws j) j)) z ∙ go (tri row.virtual_finish_time latest))
  where
    z : at + 0 ≡ at
    z = omega arith

    row : ActiveStreamInfo
    row = active_at ws at

    fits : row.virtual_finish_time ≤ latest
    fits = subst (λ (j : ℕ). (active_at ws j).virtual_finish_time ≤ latest) z l

    by_id : row.virtual_finish_time ≡ latest → Tri row.stream_id.0 65535 → better (behind_all at) (best_of row at) ≡ best_of row at
    by_id q (less m) = sym (second_id (behind_all at) row at (omega arith) (omega arith) m)
    by_id q (same p) = sym (first_id (behind_all at) row at (omega arith) (omega arith) (omega arith)) ∙ rw (p, q)
    by_id q (more m) = absurd (omega (arith, (active_at_fits ws at).stream_id_fits))

    go : Tri row.virtual_finish_time latest → better (behind_all at) (best_of row at) ≡ best_of row at
    go (less m) = sym (later (behind_all at) row at m)
    go (same q) = by_id q (tri _ _)
    go (more m) = absurd (omega (arith, fits))

-- The earliest of no row, and of one more; none finishes before it.
module _ (rows : ℕ → ActiveStreamInfo) where
  pub soonest_none : soonest rows 0 ≡ latest
  unfolding soonest
  soonest_none = refl

  -- one row more finishes earlier than those before, or it does not
  pub soonest_next : (n a b : ℕ) → a ≡ soonest rows n → b ≡ min a (finish_of rows n) → b ≡ soonest rows (n + 1)
  unfolding soonest
  soonest_next n a b ea eb =
      let s : n + 1 ≡ suc n = omega arith in
      rw (s, ← ea) eb

  soonest_first : (n k : ℕ) → k < n → soonest rows n ≤ finish_of rows k
  unfolding soonest
  soonest_first zero k l = absurd (omega arith)
  soonest_first (suc n) k l = go (tri k n) (soonest_first n k)
    where
      go : Tri k n → (k < n → soonest rows n ≤ finish_of rows k) → min (soonest rows n) (finish_of rows n) ≤ finish_of rows k
      go (less m) ih =
          let i : soonest rows n ≤ finish_of rows k = ih m in
          omega arith
      go (same e) ih =
          let f : min (soonest rows n) (finish_of rows n) ≤ finish_of rows n = omega arith in
          rw e f
      go (more m) ih = absurd (omega arith)

module _ (ws : List ℕ) (from : ℕ) (best : Best) where
  abbrev rows : ℕ → ActiveStreamInfo
  rows = rows_from ws from

  abbrev earliest : ℕ
  earliest = soonest rows 4

  -- The test by its cases, with t the earliest of the four finish times.
  module _ (t : ℕ) (et : t ≡ earliest) where
    pub behind_later : best.finish < t → true ≡ four_behind ws from best
    unfolding four_behind
    behind_later l = rw (← et, lt-ltb _ _ l)

    pub behind_sooner : t < best.finish → false ≡ four_behind ws from best
    unfolding four_behind
    behind_sooner l =
        let m : t ≤ best.finish = omega arith in
        let n : t ≡ best.finish → ⊥ = λ e. omega arith in
        rw (← et, le-ltb _ _ m, ne_eqb _ _ n)

    pub behind_level : t ≤ best.finish → best.finish ≤ t → ids_behind_words rows best.id 0 4 ≡ four_behind ws from best
    unfolding four_behind
    behind_level l m =
        let e : t ≡ best.finish = omega arith in
        rw (← et, le-ltb _ _ l, eq-eqb _ _ e)

  ids_above : ids_behind_words rows best.id 0 4 ≡ true → (k : ℕ) → k < 4 → best.id ≤ (rows k).stream_id.0
  ids_above e k l =
      let z : 0 + k ≡ k = omega arith in
      rw z at (ids_at rows best.id 4 0 e k l)

  -- Four rows that are passed by leave the best so far as it is.
  pub four_passed : four_behind ws from best ≡ true → best_among rows best from 4 ≡ best
  four_passed h = go (tri best.finish earliest)
    where
      each : best.finish ≤ earliest → (earliest ≤ best.finish → ids_behind_words rows best.id 0 4 ≡ true) → best_among rows best from 4 ≡ best
      each t ids = rows_behind rows best from 4 (λ k l.
          let f : earliest ≤ finish_of rows k = soonest_first rows 4 k l in
          row_behind best (rows k) (from + k) (omega arith) (λ m. ids_above (ids (omega arith)) k l))

      go : Tri best.finish earliest → best_among rows best from 4 ≡ best
      go (less m) = each (omega arith) (λ n. absurd (omega arith))
      go (same e) = each (omega arith) (λ n. behind_level _ refl n (omega arith) ∙ h)
      go (more m) = cc (behind_sooner _ refl m)
