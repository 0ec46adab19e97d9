-- What is read after a store of the words of a message that goes on: as if its three rows had been stored whole with those changed. Assumes nothing.
use mathlib.Core.Path.{◌≡◌, ap, ◌∙◌}
use mathlib.Core.Logic.{inl, inr}
use mathlib.Core.List.{List}
use Prim.Native.Nat.{ℕ, ◌+◌, ◌*◌, ◌<◌}
use native.Mathlib.Omega.{arith, ne_cases}
use native.Mathlib.Nat.{mod-eq_of_lt}
use lib.ListN.{length, set, length-set}
use Rattle.queue_words.specs.Rows.{row}
use Rattle.queue_words.specs.Header.{options_of, options_at, totals_of, totals_at, scheduler_of, scheduler_at}
use Rattle.queue_words.specs.Leasts.{leasts_at}
use Rattle.queue_words.specs.Known.{known_of, known_at}
use Rattle.queue_words.specs.Streams.{stream_of, stream_at_words}
use Rattle.queue_words.specs.Items.{item_of, item_at}
use Rattle.queue_words.specs.Active.{active_of, active_at}
use Rattle.queue_sending.specs.Progress.{put_progress, with_total, with_amount, with_part}
use Rattle.queue_words.proofs.Rows.{Apart, row_set_word, row_word_other}

module _ (ws : List ℕ) (r i total amount fsn offset : ℕ) where
  -- the words store by store
  abbrev u1 : List ℕ
  u1 = set ws 9 total

  abbrev u2 : List ℕ
  u2 = set (set ws 9 total) (544 + r * 10 + 5) amount

  abbrev u3 : List ℕ
  u3 = set (set (set ws 9 total) (544 + r * 10 + 5) amount) (3104 + i * 16 + 8) fsn

  long1 : length u1 ≡ length ws
  long1 = length-set ws 9 total

  long2 : length u2 ≡ length ws
  long2 = length-set u1 (544 + r * 10 + 5) amount ∙ long1

  long3 : length u3 ≡ length ws
  long3 = length-set u2 (3104 + i * 16 + 8) fsn ∙ long2

  pub whole_put_progress : length (put_progress ws r i total amount fsn offset) ≡ length ws
  unfolding put_progress
  whole_put_progress = length-set u3 (3104 + i * 16 + 13) offset ∙ long3

  -- words apart from the three rows are as they were
  others : (b n : ℕ) → Apart 9 1 b n → Apart (544 + r * 10 + 5) 1 b n → Apart (3104 + i * 16 + 8) 1 b n → Apart (3104 + i * 16 + 13) 1 b n
      → row (put_progress ws r i total amount fsn offset) b n ≡ row ws b n
  unfolding put_progress
  others b n o1 o2 o3 o4 =
      row_word_other u3 (3104 + i * 16 + 13) offset b n o4
      ∙ row_word_other u2 (3104 + i * 16 + 8) fsn b n o3
      ∙ row_word_other u1 (544 + r * 10 + 5) amount b n o2
      ∙ row_word_other ws 9 total b n o1

  pub options_put_progress : options_at (put_progress ws r i total amount fsn offset) ≡ options_at ws
  unfolding options_at
  options_put_progress = ap options_of (others 0 7 (inr (omega arith)) (inr (omega arith)) (inr (omega arith)) (inr (omega arith)))

  pub scheduler_put_progress : scheduler_at (put_progress ws r i total amount fsn offset) ≡ scheduler_at ws
  unfolding scheduler_at
  scheduler_put_progress = ap scheduler_of (others 18 3 (inl (omega arith)) (inr (omega arith)) (inr (omega arith)) (inr (omega arith)))

  pub leasts_put_progress : leasts_at (put_progress ws r i total amount fsn offset) ≡ leasts_at ws
  unfolding leasts_at
  leasts_put_progress = others 21 11 (inl (omega arith)) (inr (omega arith)) (inr (omega arith)) (inr (omega arith))

  pub known_put_progress : (j : ℕ) → j < 256 → known_at (put_progress ws r i total amount fsn offset) j ≡ known_at ws j
  unfolding known_at
  known_put_progress j h = ap known_of (others (32 + j * 2) 2 (inl (omega arith)) (inr (omega arith)) (inr (omega arith)) (inr (omega arith)))

  pub active_put_progress : (j : ℕ) → r < 256 → i < 1024 → active_at (put_progress ws r i total amount fsn offset) j ≡ active_at ws j
  unfolding active_at
  active_put_progress j hr hi = ap active_of (others (19488 + j * 5) 5 (inl (omega arith)) (inl (omega arith)) (inl (omega arith)) (inl (omega arith)))

  pub totals_put_progress : length ws ≡ 20768 → totals_at (put_progress ws r i total amount fsn offset) ≡ with_total (totals_at ws) total
  unfolding totals_at put_progress
  totals_put_progress l =
      ap totals_of
      (row_word_other u3 (3104 + i * 16 + 13) offset 7 11 (inr (omega arith))
      ∙ row_word_other u2 (3104 + i * 16 + 8) fsn 7 11 (inr (omega arith))
      ∙ row_word_other u1 (544 + r * 10 + 5) amount 7 11 (inr (omega arith))
      ∙ row_set_word ws 7 11 2 total (omega arith) (omega arith))

  pub stream_put_progress : length ws ≡ 20768 → r < 256 → stream_at_words (put_progress ws r i total amount fsn offset) r ≡ with_amount (stream_at_words ws r) amount
  unfolding stream_at_words put_progress
  stream_put_progress l h =
      ap stream_of
      (row_word_other u3 (3104 + i * 16 + 13) offset (544 + r * 10) 9 (inr (omega arith))
      ∙ row_word_other u2 (3104 + i * 16 + 8) fsn (544 + r * 10) 9 (inr (omega arith))
      ∙ row_set_word u1 (544 + r * 10) 9 5 amount (omega (arith, long1)) (omega arith)
      ∙ ap (λ v. set v 5 amount) (row_word_other ws 9 total (544 + r * 10) 9 (inl (omega arith))))

  pub stream_put_progress_other : (j : ℕ) → j < 256 → (r ≡ j → ⊥) → stream_at_words (put_progress ws r i total amount fsn offset) j ≡ stream_at_words ws j
  unfolding stream_at_words
  stream_put_progress_other j h ne =
      ap stream_of (others (544 + j * 10) 9 (inl (omega arith)) (ne_cases r j _ ne (λ l. inl (omega arith)) (λ l. inr (omega arith))) (inr (omega arith)) (inr (omega arith)))

  pub item_put_progress : length ws ≡ 20768 → r < 256 → i < 1024 → fsn < 4294967296
      → item_at (put_progress ws r i total amount fsn offset) i ≡ with_part (item_at ws i) fsn offset
  unfolding item_at put_progress
  item_put_progress l hr h f =
      ap item_of
      (row_set_word u3 (3104 + i * 16) 15 13 offset (omega (arith, long3)) (omega arith)
      ∙ ap (λ v. set v 13 offset)
      (row_set_word u2 (3104 + i * 16) 15 8 fsn (omega (arith, long2)) (omega arith)
      ∙ ap (λ v. set v 8 fsn)
      (row_word_other u1 (544 + r * 10 + 5) amount (3104 + i * 16) 15 (inl (omega arith))
      ∙ row_word_other ws 9 total (3104 + i * 16) 15 (inl (omega arith)))))
      ∙ ap (λ x. with_part (item_at ws i) x offset) (mod-eq_of_lt f)

  pub item_put_progress_other : (j : ℕ) → r < 256 → (i ≡ j → ⊥) → item_at (put_progress ws r i total amount fsn offset) j ≡ item_at ws j
  unfolding item_at
  item_put_progress_other j hr ne =
      ap item_of (others (3104 + j * 16) 15 (inl (omega arith)) (inl (omega arith)) (ne_cases i j _ ne (λ l. inl (omega arith)) (λ l. inr (omega arith))) (ne_cases i j _ ne (λ l. inl (omega arith)) (λ l. inr (omega arith))))
