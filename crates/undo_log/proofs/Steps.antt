-- A drop put into the log: undone from there, the words behind the header are those that the log before it gives from the words before the drop. Assumes
-- nothing.
use mathlib.Core.Path.{◌≡◌, refl, ap, ◌∙◌}
use mathlib.Core.Bool.{Bool, true, false}
use mathlib.Core.List.{List}
use Prim.Native.Nat.{ℕ, zero, suc, ◌+◌, ◌*◌, ◌≤◌, ◌<◌}
use native.Mathlib.Nat.{mul-le-mul_right, suc-mul}
use native.Mathlib.Omega.{arith}
use lib.Dec.{ltb}
use lib.ListN.{length, drop}
use Rattle.queue_words.specs.Flags.{pick}
use Rattle.queue_words.specs.Streams.{stream_at_words}
use Rattle.undo_log.specs.Log.{header, block, undone_block, kept, undone_drop, undone, waiting_row, kept_drop}
use Rattle.undo_log.proofs.Blocks.{Under, put_back, block_length, block_under, block_undone, undone_under, Behind, undone_behind}
use Rattle.undo_log.proofs.Changes.{Near, rows_back_words, rows_back}

-- the same words behind the header are so after drops were undone
drop_behind : (h : ℕ) (log : List ℕ) (d : ℕ) (xs ys : List ℕ) → Behind h xs ys → Behind h (undone_drop log d xs) (undone_drop log d ys)
unfolding undone_drop
drop_behind h log d xs ys e =
    undone_behind h log (d * 20 + 14) 5 _ _ (undone_behind h log (d * 20 + 10) 3 _ _ (undone_behind h log (d * 20) 9 xs ys e))

all_behind : (h : ℕ) (log : List ℕ) (d : ℕ) (xs ys : List ℕ) → Behind h xs ys → Behind h (undone log d xs) (undone log d ys)
unfolding undone
all_behind h log zero xs ys e = e
all_behind h log (suc d) xs ys e = all_behind h log d (undone_drop log d xs) (undone_drop log d ys) (drop_behind h log d xs ys e)

-- a log that is the same below drop d undoes the drops before d alike
drop_under : (xs ys : List ℕ) (i b : ℕ) (us : List ℕ) → Under b xs ys → i * 20 + 20 ≤ b → undone_drop xs i us ≡ undone_drop ys i us
unfolding undone_drop
drop_under xs ys i b us u h =
    undone_under xs ys (i * 20 + 14) 5 b _ u (omega arith)
    ∙ ap (λ (l : List ℕ). undone_block ys (i * 20 + 14) 5 l) (undone_under xs ys (i * 20 + 10) 3 b _ u (omega arith) ∙ ap (λ (l : List ℕ). undone_block ys (i * 20 + 10) 3 l) (undone_under xs ys (i * 20) 9 b us u (omega arith)))

those : (xs ys : List ℕ) (d : ℕ) (us : List ℕ) → Under (d * 20) xs ys → (i : ℕ) → i ≤ d → undone xs i us ≡ undone ys i us
unfolding undone
those xs ys d us u zero h = refl
those xs ys d us u (suc i) h =
    let k : suc i * 20 ≤ d * 20 = mul-le-mul_right 20 h in
    let e : i * 20 + 20 ≤ d * 20 = omega (arith, suc-mul i 20) in
    ap (λ (l : List ℕ). undone xs i l) (drop_under xs ys i (d * 20) us u e) ∙ those xs ys d (undone_drop ys i us) u i (omega arith)

module _ (log : List ℕ) (d : ℕ) (ws : List ℕ) (row place at : ℕ) (fits : d * 20 + 20 ≤ length log) where
  l1 : List ℕ
  l1 = block log (d * 20) ws (544 + row * 10) 9

  l2 : List ℕ
  l2 = block l1 (d * 20 + 10) ws (3104 + place * 16 + 12) 3

  l3 : List ℕ
  l3 = block l2 (d * 20 + 14) ws (19488 + at * 5) 5

  is_kept : kept log d ws row place at ≡ l3
  unfolding kept l3 l2 l1
  is_kept = refl

  n1 : length l1 ≡ length log
  unfolding l1
  n1 = block_length log (d * 20) ws (544 + row * 10) 9

  n2 : length l2 ≡ length log
  unfolding l2
  n2 = block_length l1 (d * 20 + 10) ws (3104 + place * 16 + 12) 3 ∙ n1

  under3 : Under (d * 20 + 14) l3 l2
  unfolding l3
  under3 = block_under l2 (d * 20 + 14) ws (19488 + at * 5) 5

  under2 : Under (d * 20 + 10) l3 l1
  unfolding l2
  under2 j h = under3 j (omega arith) ∙ block_under l1 (d * 20 + 10) ws (3104 + place * 16 + 12) 3 j h

  under1 : Under (d * 20) l3 log
  unfolding l1
  under1 j h = under2 j (omega arith) ∙ block_under log (d * 20) ws (544 + row * 10) 9 j h

  own1 : (us : List ℕ) → row < 256 → undone_block l3 (d * 20) 9 us ≡ put_back us ws (544 + row * 10) 9
  unfolding l1
  own1 us h = undone_under l3 l1 (d * 20) 9 (d * 20 + 10) us under2 (omega arith) ∙ block_undone log (d * 20) ws (544 + row * 10) 9 us (omega arith) (omega arith)

  own2 : (us : List ℕ) → place < 1024 → undone_block l3 (d * 20 + 10) 3 us ≡ put_back us ws (3104 + place * 16 + 12) 3
  unfolding l2
  own2 us h = undone_under l3 l2 (d * 20 + 10) 3 (d * 20 + 14) us under3 (omega arith) ∙ block_undone l1 (d * 20 + 10) ws (3104 + place * 16 + 12) 3 us (omega (arith, n1)) (omega arith)

  own3 : (us : List ℕ) → at < 256 → undone_block l3 (d * 20 + 14) 5 us ≡ put_back us ws (19488 + at * 5) 5
  unfolding l3
  own3 us h = block_undone l2 (d * 20 + 14) ws (19488 + at * 5) 5 us (omega (arith, n2)) (omega arith)

  -- the drop itself
  this_one : (us : List ℕ) → row < 256 → place < 1024 → at < 256 → undone_drop l3 d us ≡ rows_back_words row place at ws us
  unfolding undone_drop
  this_one us hr hp ha =
      own3 _ ha
      ∙ ap (λ (l : List ℕ). put_back l ws (19488 + at * 5) 5) (own2 _ hp ∙ ap (λ (l : List ℕ). put_back l ws (3104 + place * 16 + 12) 3) (own1 us hr))

  -- Kept and not done, it changes nothing of what was kept before.
  pub kept_before : (us : List ℕ) → undone (kept log d ws row place at) d us ≡ undone log d us
  kept_before us = ap (λ (x : List ℕ). undone x d us) is_kept ∙ those l3 log d us under1 d (omega arith)

  -- Whatever the words: us, which differs from ws where one drop may change it, undone with the drop in the log, is ws undone without.
  pub kept_step : (us : List ℕ) → length ws ≡ 20768 → row < 256 → place < 1024 → at < 256 → Near row place at ws us
      → Behind header (undone (kept log d ws row place at) (suc d) us) (undone log d ws)
  unfolding undone
  kept_step us l hr hp ha n =
      ap (λ (x : List ℕ). drop header (undone x (suc d) us)) is_kept
      ∙ ap (λ (x : List ℕ). drop header (undone l3 d x)) (this_one us hr hp ha)
      ∙ all_behind header l3 d _ ws (rows_back row place at ws us l hr hp ha n)
      ∙ ap (drop header) (those l3 log d ws under1 d (omega arith))

-- the same of what is kept for the head of the stream in a row
pub keeping_before : (log : List ℕ) (d : ℕ) (ws : List ℕ) (id r : ℕ) (us : List ℕ) → d * 20 + 20 ≤ length log → undone (kept_drop log d ws id r) d us ≡ undone log d us
unfolding kept_drop
keeping_before log d ws id r us fits = by (ltb 255 r) (ltb 1023 (stream_at_words ws r).first)
  where
    by : (a b : Bool) → undone (pick a log (pick b log (kept log d ws r (stream_at_words ws r).first (waiting_row ws id)))) d us ≡ undone log d us
    by true b = refl
    by false true = refl
    by false false = kept_before log d ws r (stream_at_words ws r).first (waiting_row ws id) fits us
