-- What is read after a stream became resetting: as if its whole row had been stored with the other state. Assumes nothing.
use mathlib.Core.Path.{◌≡◌, refl, ap}
use mathlib.Core.Bool.{Bool, true, false}
use mathlib.Core.Logic.{inl, inr}
use mathlib.Core.List.{List}
use Prim.Native.Nat.{ℕ, ◌+◌, ◌*◌, ◌<◌}
use native.Mathlib.Omega.{arith, ne_cases}
use lib.Dec.{ltb}
use lib.ListN.{length, length-set}
use Rattle.queue_words.specs.Flags.{pick}
use Rattle.queue_words.specs.Rows.{row}
use Rattle.queue_words.specs.Header.{options_of, options_at, totals_of, totals_at, scheduler_of, scheduler_at}
use Rattle.queue_words.specs.Leasts.{leasts_at}
use Rattle.queue_words.specs.Known.{known_of, known_at}
use Rattle.queue_words.specs.Streams.{is_paused_words, stream_of, stream_at_words, with_pause}
use Rattle.queue_words.specs.Items.{item_of, item_at}
use Rattle.queue_words.specs.Active.{active_of, active_at}
use Rattle.queue_words.specs.declared.streams.PauseState.TheVariants.{Resetting}
use Rattle.queue_words.proofs.Rows.{Apart, row_set_word, row_word_other}
use Rattle.queue_restarts.specs.Marking.{put_resetting}
use Rattle.queue_restarts.specs.Ready.{marked}

module _ (ws : List ℕ) (i : ℕ) where
  pub whole_put : length (put_resetting ws i) ≡ length ws
  unfolding put_resetting
  whole_put = length-set ws (544 + i * 10 + 1) 3

  -- words apart from the row are as they were
  others : (b n : ℕ) → Apart (544 + i * 10) 10 b n → row (put_resetting ws i) b n ≡ row ws b n
  unfolding put_resetting
  others b n o = row_word_other ws (544 + i * 10 + 1) 3 b n (one o)
    where
      one : Apart (544 + i * 10) 10 b n → Apart (544 + i * 10 + 1) 1 b n
      one (inl l) = inl (omega arith)
      one (inr l) = inr (omega arith)

  pub options_put : options_at (put_resetting ws i) ≡ options_at ws
  unfolding options_at
  options_put = ap options_of (others 0 7 (inr (omega arith)))

  pub totals_put : totals_at (put_resetting ws i) ≡ totals_at ws
  unfolding totals_at
  totals_put = ap totals_of (others 7 11 (inr (omega arith)))

  pub scheduler_put : scheduler_at (put_resetting ws i) ≡ scheduler_at ws
  unfolding scheduler_at
  scheduler_put = ap scheduler_of (others 18 3 (inr (omega arith)))

  pub leasts_put : leasts_at (put_resetting ws i) ≡ leasts_at ws
  unfolding leasts_at
  leasts_put = others 21 11 (inr (omega arith))

  pub known_put : (j : ℕ) → j < 256 → known_at (put_resetting ws i) j ≡ known_at ws j
  unfolding known_at
  known_put j h = ap known_of (others (32 + j * 2) 2 (inr (omega arith)))

  pub item_put : (j : ℕ) → i < 256 → item_at (put_resetting ws i) j ≡ item_at ws j
  unfolding item_at
  item_put j h = ap item_of (others (3104 + j * 16) 15 (inl (omega arith)))

  pub active_put : (j : ℕ) → i < 256 → active_at (put_resetting ws i) j ≡ active_at ws j
  unfolding active_at
  active_put j h = ap active_of (others (19488 + j * 5) 5 (inl (omega arith)))

  pub stream_put : length ws ≡ 20768 → i < 256 → stream_at_words (put_resetting ws i) i ≡ with_pause (stream_at_words ws i) Resetting
  unfolding stream_at_words put_resetting
  stream_put l h = ap stream_of (row_set_word ws (544 + i * 10) 9 1 3 (omega arith) (omega arith))

  pub stream_put_other : (j : ℕ) → (i ≡ j → ⊥) → stream_at_words (put_resetting ws i) j ≡ stream_at_words ws j
  unfolding stream_at_words
  stream_put_other j ne = ap stream_of (others (544 + j * 10) 9 (ne_cases i j _ ne (λ h. inl (omega arith)) (λ h. inr (omega arith))))

-- ---- a stream marked, if it is paused

module _ (ws : List ℕ) (place : ℕ) where
  pub known_marked : (j : ℕ) → j < 256 → known_at (marked ws place) j ≡ known_at ws j
  unfolding marked
  known_marked j h = by (ltb 255 place) (is_paused_words (stream_at_words ws place).pause_state)
    where
      by : (a b : Bool) → known_at (pick a ws (pick b (put_resetting ws place) ws)) j ≡ known_at ws j
      by true b = refl
      by false true = known_put ws place j h
      by false false = refl

  pub stream_marked_other : (j : ℕ) → (place ≡ j → ⊥) → stream_at_words (marked ws place) j ≡ stream_at_words ws j
  unfolding marked
  stream_marked_other j ne = by (ltb 255 place) (is_paused_words (stream_at_words ws place).pause_state)
    where
      by : (a b : Bool) → stream_at_words (pick a ws (pick b (put_resetting ws place) ws)) j ≡ stream_at_words ws j
      by true b = refl
      by false true = stream_put_other ws place j ne
      by false false = refl
