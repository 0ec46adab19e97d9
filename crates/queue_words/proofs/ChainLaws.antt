-- What is read after a store of a stream's amount and of the ends of its chain: as if the whole row had been stored with those changed. Assumes nothing.
use mathlib.Core.Path.{◌≡◌, ap, ◌∙◌}
use mathlib.Core.Logic.{inl, inr}
use mathlib.Core.List.{List}
use Prim.Native.Nat.{ℕ, ◌+◌, ◌*◌, ◌<◌}
use native.Mathlib.Omega.{arith, ne_cases}
use lib.ListN.{length, set, length-set}
use Rattle.queue_words.specs.Rows.{row}
use Rattle.queue_words.specs.Header.{options_of, options_at, totals_of, totals_at, scheduler_of, scheduler_at}
use Rattle.queue_words.specs.Leasts.{leasts_at}
use Rattle.queue_words.specs.Known.{known_of, known_at}
use Rattle.queue_words.specs.Streams.{stream_of, stream_at_words, put_chain, with_chain}
use Rattle.queue_words.specs.Items.{item_of, item_at}
use Rattle.queue_words.specs.Active.{active_of, active_at}
use Rattle.queue_words.proofs.Rows.{Apart, row_set_word, row_word_other}

module _ (ws : List ℕ) (i amount first last : ℕ) where
  pub whole_put_chain : length (put_chain ws i amount first last) ≡ length ws
  unfolding put_chain
  whole_put_chain =
      length-set (set (set ws (544 + i * 10 + 5) amount) (544 + i * 10 + 7) first) (544 + i * 10 + 8) last
      ∙ length-set (set ws (544 + i * 10 + 5) amount) (544 + i * 10 + 7) first
      ∙ length-set ws (544 + i * 10 + 5) amount

  -- words apart from the row are as they were
  others : (b n : ℕ) → Apart (544 + i * 10) 10 b n → row (put_chain ws i amount first last) b n ≡ row ws b n
  unfolding put_chain
  others b n o =
      row_word_other (set (set ws (544 + i * 10 + 5) amount) (544 + i * 10 + 7) first) (544 + i * 10 + 8) last b n (one 8 (omega arith) o)
      ∙ row_word_other (set ws (544 + i * 10 + 5) amount) (544 + i * 10 + 7) first b n (one 7 (omega arith) o)
      ∙ row_word_other ws (544 + i * 10 + 5) amount b n (one 5 (omega arith) o)
    where
      one : (k : ℕ) → k < 10 → Apart (544 + i * 10) 10 b n → Apart (544 + i * 10 + k) 1 b n
      one k h (inl l) = inl (omega arith)
      one k h (inr l) = inr (omega arith)

  pub options_put_chain : options_at (put_chain ws i amount first last) ≡ options_at ws
  unfolding options_at
  options_put_chain = ap options_of (others 0 7 (inr (omega arith)))

  pub totals_put_chain : totals_at (put_chain ws i amount first last) ≡ totals_at ws
  unfolding totals_at
  totals_put_chain = ap totals_of (others 7 11 (inr (omega arith)))

  pub scheduler_put_chain : scheduler_at (put_chain ws i amount first last) ≡ scheduler_at ws
  unfolding scheduler_at
  scheduler_put_chain = ap scheduler_of (others 18 3 (inr (omega arith)))

  pub leasts_put_chain : leasts_at (put_chain ws i amount first last) ≡ leasts_at ws
  unfolding leasts_at
  leasts_put_chain = others 21 11 (inr (omega arith))

  pub known_put_chain : (j : ℕ) → j < 256 → known_at (put_chain ws i amount first last) j ≡ known_at ws j
  unfolding known_at
  known_put_chain j h = ap known_of (others (32 + j * 2) 2 (inr (omega arith)))

  pub item_put_chain : (j : ℕ) → i < 256 → item_at (put_chain ws i amount first last) j ≡ item_at ws j
  unfolding item_at
  item_put_chain j h = ap item_of (others (3104 + j * 16) 15 (inl (omega arith)))

  pub active_put_chain : (j : ℕ) → i < 256 → active_at (put_chain ws i amount first last) j ≡ active_at ws j
  unfolding active_at
  active_put_chain j h = ap active_of (others (19488 + j * 5) 5 (inl (omega arith)))

  pub stream_put_chain : length ws ≡ 20768 → i < 256 → stream_at_words (put_chain ws i amount first last) i ≡ with_chain (stream_at_words ws i) amount first last
  unfolding stream_at_words put_chain
  stream_put_chain l h =
      let us : List ℕ = set ws (544 + i * 10 + 5) amount in
      let vs : List ℕ = set us (544 + i * 10 + 7) first in
      let lu : length us ≡ length ws = length-set ws (544 + i * 10 + 5) amount in
      let lv : length vs ≡ length us = length-set us (544 + i * 10 + 7) first in
      ap stream_of
      (row_set_word vs (544 + i * 10) 9 8 last (omega arith) (omega arith)
      ∙ ap (λ r. set r 8 last)
      (row_set_word us (544 + i * 10) 9 7 first (omega arith) (omega arith)
      ∙ ap (λ r. set r 7 first) (row_set_word ws (544 + i * 10) 9 5 amount (omega arith) (omega arith))))

  pub stream_put_chain_other : (j : ℕ) → (i ≡ j → ⊥) → stream_at_words (put_chain ws i amount first last) j ≡ stream_at_words ws j
  unfolding stream_at_words
  stream_put_chain_other j ne = ap stream_of (others (544 + j * 10) 9 (ne_cases i j _ ne (λ h. inl (omega arith)) (λ h. inr (omega arith))))
