-- A search over a lent part of the table finds what a search over the queue's rows finds: it looks only at the rows that the part has. Assumes nothing.
use mathlib.Core.Path.{◌≡◌, refl, ap, ◌∙◌}
use Prim.Native.Nat.{ℕ, zero, suc, ◌+◌, ◌<◌, min}
use mathlib.Core.List.{List}
use native.Mathlib.Omega.{arith}
use lib.ListN.{length}
use Rattle.active_table.specs.Parts.{rows_of, rows_from, AreRows}
use Rattle.active_table.specs.Rows.{seek_from, best_among}
use Rattle.active_table.specs.Passing.{soonest, ids_behind_words}
use Rattle.active_table.specs.declared.Best.{Best}
use Rattle.queue_words.specs.declared.active.ActiveStreamInfo.{ActiveStreamInfo}

module _ (r s : ℕ → ActiveStreamInfo) where
  same_seek : (id i n : ℕ) → ((k : ℕ) → k < i + n → r k ≡ s k) → seek_from r id i n ≡ seek_from s id i n
  unfolding seek_from
  same_seek id i zero e = refl
  same_seek id i (suc n) e = rw (e i (omega arith), same_seek id (suc i) n (λ k h. e k (omega arith)))

  same_ids : (id i n : ℕ) → ((k : ℕ) → k < i + n → r k ≡ s k) → ids_behind_words r id i n ≡ ids_behind_words s id i n
  unfolding ids_behind_words
  same_ids id i zero e = refl
  same_ids id i (suc n) e = rw (e i (omega arith), same_ids id (suc i) n (λ k h. e k (omega arith)))

  same_best : (start : Best) (from n : ℕ) → ((k : ℕ) → k < n → r k ≡ s k) → best_among r start from n ≡ best_among s start from n
  unfolding best_among
  same_best start from zero e = refl
  same_best start from (suc n) e = rw (e n (omega arith), same_best start from n (λ k h. e k (omega arith)))

  same_soonest : (n : ℕ) → ((k : ℕ) → k < n → r k ≡ s k) → soonest r n ≡ soonest s n
  unfolding soonest
  same_soonest zero e = refl
  same_soonest (suc n) e =
      ap (λ (t : ℕ). min t (r n).virtual_finish_time) (same_soonest n (λ k h. e k (omega arith)))
      ∙ ap (λ (row : ActiveStreamInfo). min (soonest s n) row.virtual_finish_time) (e n (omega arith))

module _ {ws : List ℕ} {from n : ℕ} {ys : List ActiveStreamInfo} (e : AreRows ws from n ys) where
  pub rows_seek : (id : ℕ) → seek_from (rows_of ys) id 0 (length ys) ≡ seek_from (rows_from ws from) id 0 n
  rows_seek id = rw e.count (same_seek _ _ id 0 n (λ k h. e.each k (omega arith)))

  pub rows_ids : (id : ℕ) → ids_behind_words (rows_of ys) id 0 (length ys) ≡ ids_behind_words (rows_from ws from) id 0 n
  rows_ids id = rw e.count (same_ids _ _ id 0 n (λ k h. e.each k (omega arith)))

  pub rows_best : (start : Best) → best_among (rows_of ys) start from (length ys) ≡ best_among (rows_from ws from) start from n
  rows_best start = rw e.count (same_best _ _ start from n e.each)

  pub rows_soonest : soonest (rows_of ys) (length ys) ≡ soonest (rows_from ws from) n
  rows_soonest = rw e.count (same_soonest _ _ n e.each)
