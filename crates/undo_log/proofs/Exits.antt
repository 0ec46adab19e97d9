-- The ways out of keeping and of undoing, over plain values. Assumes nothing.
use mathlib.Core.Path.{◌≡◌, ap, subst, ◌∙◌}
use mathlib.Core.List.{List}
use Prim.Native.Nat.{ℕ, suc, ◌+◌, ◌-◌, ◌*◌, ◌≤◌, ◌<◌}
use native.Mathlib.Omega.{arith}
use lib.ListN.{length, set, length-set}
use Rattle.queue_words.specs.Rows.{row, put_row}
use Rattle.queue_words.proofs.Rows.{row_put_length}
use Rattle.undo_log.specs.Log.{block, undone_block, kept, undone_drop, undone}

pub kept_by : (log : List ℕ) (d : ℕ) (ws : List ℕ) (row place at : ℕ) (l1 l2 l3 : List ℕ) → l1 ≡ block log (d * 20) ws (544 + row * 10) 9
    → l2 ≡ block l1 (d * 20 + 10) ws (3104 + place * 16 + 12) 3 → l3 ≡ block l2 (d * 20 + 14) ws (19488 + at * 5) 5 → l3 ≡ kept log d ws row place at
unfolding kept
kept_by log d ws row place at l1 l2 l3 e1 e2 e3 = e3 ∙ rw (e2, e1)

pub undone_by : (log : List ℕ) (d : ℕ) (us u1 u2 u3 : List ℕ) → u1 ≡ undone_block log (d * 20) 9 us
    → u2 ≡ undone_block log (d * 20 + 10) 3 u1 → u3 ≡ undone_block log (d * 20 + 14) 5 u2 → u3 ≡ undone_drop log d us
unfolding undone_drop
undone_by log d us u1 u2 u3 e1 e2 e3 = e3 ∙ rw (e2, e1)

-- a turn of the loop that undoes, and its end
module _ (log us : List ℕ) (i : ℕ) (whole : List ℕ) (inv : undone log i us ≡ whole) where
  pub undo_turn : 0 < i → (l : List ℕ) → l ≡ undone_drop log (i - 1) us → undone log (i - 1) l ≡ whole
  unfolding undone
  undo_turn h l e =
      let s : i ≡ suc (i - 1) = omega arith in
      rw e (subst (λ (m : ℕ). undone log m us ≡ whole) s inv)

  pub undo_end : i ≤ 0 → us ≡ whole
  unfolding undone
  undo_end h =
      let s : i ≡ 0 = omega arith in
      subst (λ (m : ℕ). undone log m us ≡ whole) s inv

-- keeping a block leaves the log as long as it is
pub block_long : (log : List ℕ) (at : ℕ) (ws : List ℕ) (from n : ℕ) (l : List ℕ) → l ≡ put_row (set log at from) (at + 1) (row ws from n) → length l ≡ length log
block_long log at ws from n l e = ap length e ∙ row_put_length (set log at from) (at + 1) (row ws from n) ∙ length-set log at from
