-- Blocks of an undo log: what is read of one after it was kept, what putting it back leaves, and what does not depend on the header. Assumes nothing.
use mathlib.Core.Path.{◌≡◌, refl, sym, ap, subst, ◌∙◌}
use mathlib.Core.Logic.{◌⊎◌, inl, inr, ⊎_elim}
use mathlib.Core.Bool.{Bool, true, false}
use mathlib.Core.List.{List, [], ◌∷◌}
use Prim.Native.Nat.{ℕ, zero, suc, ◌+◌, ◌-◌, ◌≤◌, ◌<◌}
use native.Mathlib.Omega.{arith, ne_cases}
use native.Mathlib.Decide.{ℕ_discrete}
use borrow.Author.Tests.{le-ltb, ltb-true, ltb-false}
use lib.Dec.{ltb}
use lib.ListN.{length, get_or, set, drop, length-set}
use lib.Seq.{get_or-set_same, get_or-set_other, drop-set-lt, drop-set-add}
use Rattle.queue_words.specs.Flags.{pick}
use Rattle.queue_words.specs.Rows.{row_from, put_from, row, put_row}
use Rattle.queue_words.proofs.Rows.{row_put_length, row_put_same, out_get_d}
use Rattle.undo_log.specs.Log.{block, undone_block}

-- index j is not among the n from a on
abbrev pub Out : ℕ → ℕ → ℕ → Type 0
Out j a n = (j < a) ⊎ (a + n ≤ j)

row_count : (n k : ℕ) (ws : List ℕ) (at : ℕ) → length (row_from ws at k n) ≡ n
row_count zero k ws at = refl
row_count (suc n) k ws at = ap suc (row_count n (suc k) ws at)

-- ------------------------------------------------------------------ words put back

-- us with the n words from b on as ws has them
abbrev pub put_back : List ℕ → List ℕ → ℕ → ℕ → List ℕ
put_back us ws b n = put_row us b (row ws b n)

back_in : (n k : ℕ) (us ws : List ℕ) (b j : ℕ) → b + k ≤ j → j < b + k + n → b + k + n ≤ length us → get_or (put_from us b k (row_from ws b k n)) j 0 ≡ get_or ws j 0
back_in zero k us ws b j h l m = absurd (omega arith)
back_in (suc n) k us ws b j h l m =
    go (ℕ_discrete j (b + k)) (λ g. back_in n (suc k) (set us (b + k) (get_or ws (b + k) 0)) ws b j (omega (arith, g)) (omega arith) (omega (arith, length-set us (b + k) (get_or ws (b + k) 0))))
  where
    us' : List ℕ
    us' = set us (b + k) (get_or ws (b + k) 0)

    go : Dec (j ≡ b + k) → (b + k < j → get_or (put_from us' b (suc k) (row_from ws b (suc k) n)) j 0 ≡ get_or ws j 0) → get_or (put_from us b k (row_from ws b k (suc n))) j 0 ≡ get_or ws j 0
    go (yes e) f =
        out_get_d (row_from ws b (suc k) n) us' b (suc k) j (inl (omega arith))
        ∙ rw e (get_or-set_same us (b + k) (get_or ws (b + k) 0) 0 (omega arith))
    go (no ne) f = f (ne_cases j (b + k) _ ne (λ lt. absurd (omega arith)) (λ lt. lt))

-- two lists have the same words at the indices R
abbrev pub Agree : List ℕ → List ℕ → (ℕ → Type 0) → Type 0
Agree us ws R = (j : ℕ) → R j → get_or us j 0 ≡ get_or ws j 0

pub back_agree : (us ws : List ℕ) (b n : ℕ) (R : ℕ → Type 0) → b + n ≤ length us → Agree us ws (λ j. Out j b n × R j) → Agree (put_back us ws b n) ws R
back_agree us ws b n R m h j r = go (ltb j b) (ltb j (b + n)) refl refl
  where
    out : Out j b n → get_or (put_back us ws b n) j 0 ≡ get_or ws j 0
    out o = out_get_d (row ws b n) us b 0 j (⊎_elim (λ l. inl (omega arith)) (λ l. inr (omega (arith, row_count n 0 ws b))) o) ∙ h j (o, r)

    go : (x y : Bool) → ltb j b ≡ x → ltb j (b + n) ≡ y → get_or (put_back us ws b n) j 0 ≡ get_or ws j 0
    go true y e g = out (inl (ltb-true j b e))
    go false true e g = back_in n 0 us ws b j (omega (arith, ltb-false j b e)) (omega (arith, ltb-true j (b + n) g)) (omega arith)
    go false false e g = out (inr (ltb-false j (b + n) g))

-- ------------------------------------------------------------------ a block kept

-- the words below b are the same
abbrev pub Under : ℕ → List ℕ → List ℕ → Type 0
Under b xs ys = (j : ℕ) → j < b → get_or xs j 0 ≡ get_or ys j 0

row_under : (n k : ℕ) (xs ys : List ℕ) (at b : ℕ) → Under b xs ys → at + k + n ≤ b → row_from xs at k n ≡ row_from ys at k n
row_under zero k xs ys at b u h = refl
row_under (suc n) k xs ys at b u h =
    let e : get_or xs (at + k) 0 ≡ get_or ys (at + k) 0 = u (at + k) (omega arith) in
    let r : row_from xs at (suc k) n ≡ row_from ys at (suc k) n = row_under n (suc k) xs ys at b u (omega arith) in
    cc

module _ (log : List ℕ) (at : ℕ) (ws : List ℕ) (from n : ℕ) where
  pub block_length : length (block log at ws from n) ≡ length log
  unfolding block
  block_length = row_put_length (set log at from) (at + 1) (row ws from n) ∙ length-set log at from

  pub block_under : Under at (block log at ws from n) log
  unfolding block
  block_under j h =
      out_get_d (row ws from n) (set log at from) (at + 1) 0 j (inl (omega arith))
      ∙ get_or-set_other log at j from 0 (λ e. omega arith)

  block_from : at < length log → get_or (block log at ws from n) at 0 ≡ from
  unfolding block
  block_from h =
      out_get_d (row ws from n) (set log at from) (at + 1) 0 at (inl (omega arith))
      ∙ get_or-set_same log at from 0 h

  block_row : at + 1 + n ≤ length log → row (block log at ws from n) (at + 1) n ≡ row ws from n
  unfolding block
  block_row h =
      subst (λ (m : ℕ). row (put_row (set log at from) (at + 1) (row ws from n)) (at + 1) m ≡ row ws from n) (row_count n 0 ws from)
      (row_put_same (set log at from) (at + 1) (row ws from n) (omega (arith, row_count n 0 ws from, length-set log at from)))

  -- a block put back after it was kept
  pub block_undone : (us : List ℕ) → at + 1 + n ≤ length log → from + n ≤ 20768 → undone_block (block log at ws from n) at n us ≡ put_back us ws from n
  unfolding undone_block
  block_undone us h g = rw (block_from (omega arith), block_row h, le-ltb (20768 - n) from (omega arith))

-- putting back a block asks for nothing but its own words
pub undone_under : (xs ys : List ℕ) (at n b : ℕ) (us : List ℕ) → Under b xs ys → at + 1 + n ≤ b → undone_block xs at n us ≡ undone_block ys at n us
unfolding undone_block
undone_under xs ys at n b us u h = rw (u at (omega arith), row_under n 0 xs ys (at + 1) b u (omega arith))

-- ------------------------------------------------------------------ behind the header

-- what is behind the first h words is the same
abbrev pub Behind : ℕ → List ℕ → List ℕ → Type 0
Behind h xs ys = drop h xs ≡ drop h ys

set_behind : (h : ℕ) (xs ys : List ℕ) (i v : ℕ) → Behind h xs ys → Behind h (set xs i v) (set ys i v)
set_behind h xs ys i v e = by (ltb i h) refl
  where
    by : (b : Bool) → ltb i h ≡ b → Behind h (set xs i v) (set ys i v)
    by true g = drop-set-lt h xs i v (ltb-true i h g) ∙ e ∙ sym (drop-set-lt h ys i v (ltb-true i h g))
    by false g =
        let s : h + (i - h) ≡ i = omega (arith, ltb-false i h g) in
        subst (λ (k : ℕ). Behind h (set xs k v) (set ys k v)) s
        (drop-set-add h xs (i - h) v ∙ ap (λ (l : List ℕ). set l (i - h) v) e ∙ sym (drop-set-add h ys (i - h) v))

put_behind : (vs : List ℕ) (h : ℕ) (xs ys : List ℕ) (at k : ℕ) → Behind h xs ys → Behind h (put_from xs at k vs) (put_from ys at k vs)
put_behind [] h xs ys at k e = e
put_behind (v ∷ vs) h xs ys at k e = put_behind vs h (set xs (at + k) v) (set ys (at + k) v) at (suc k) (set_behind h xs ys (at + k) v e)

-- the same words behind the header are so after a block was put back
pub undone_behind : (h : ℕ) (log : List ℕ) (at n : ℕ) (xs ys : List ℕ) → Behind h xs ys → Behind h (undone_block log at n xs) (undone_block log at n ys)
unfolding undone_block
undone_behind h log at n xs ys e = by (ltb (20768 - n) (get_or log at 0))
  where
    by : (b : Bool) → Behind h (pick b xs (put_row xs (get_or log at 0) (row log (at + 1) n))) (pick b ys (put_row ys (get_or log at 0) (row log (at + 1) n)))
    by true = e
    by false = put_behind (row log (at + 1) n) h xs ys (get_or log at 0) 0 e
