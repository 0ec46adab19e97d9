-- Laws of the words: what is read after a place, a length, or the used bytes and the gaps were stored. Each follows from the laws of queue_words.
-- Assumes nothing.
use mathlib.Core.Path.{◌≡◌, ap}
use mathlib.Core.List.{List}
use Prim.Native.Nat.{ℕ, ◌<◌}
use lib.ListN.{length}
use Rattle.queue_words.specs.declared.items.Item.{Item}
use Rattle.queue_words.specs.declared.header.Gaps.{Gaps}
use Rattle.queue_words.specs.declared.header.Totals.{Totals}
use Rattle.queue_words.specs.Items.{item_at, put_place, put_length}
use Rattle.queue_words.specs.Header.{totals_at}
use Rattle.queue_words.proofs.Laws.{whole_put_place, whole_put_length, whole_put_totals, item_put_place, item_put_place_other, item_put_length, item_put_length_other, length_put_place, place_put_length, totals_put_place, item_put_totals, totals_at_put, totals_at_fits}
use Rattle.payload_store.specs.Words.{used_of, gaps_of, place_of, size_of, with_bytes, put_bytes}

module _ (ws : List ℕ) (i v : ℕ) where
  pub place_length : length (put_place ws i v) ≡ length ws
  place_length = whole_put_place ws i v

  pub place_same : length ws ≡ 20768 → i < 1024 → place_of (put_place ws i v) i ≡ v
  place_same l h = ap (λ (m : Item). m.place) (item_put_place ws i v l h)

  pub place_other : (j : ℕ) → (i ≡ j → ⊥) → place_of (put_place ws i v) j ≡ place_of ws j
  place_other j ne = ap (λ (m : Item). m.place) (item_put_place_other ws i v j ne)

  pub place_size : (j : ℕ) → size_of (put_place ws i v) j ≡ size_of ws j
  place_size j = length_put_place ws i v j

  pub place_totals : totals_at (put_place ws i v) ≡ totals_at ws
  place_totals = totals_put_place ws i v

  pub size_length : length (put_length ws i v) ≡ length ws
  size_length = whole_put_length ws i v

  pub size_same : length ws ≡ 20768 → i < 1024 → size_of (put_length ws i v) i ≡ v
  size_same l h = ap (λ (m : Item). m.length) (item_put_length ws i v l h)

  pub size_other : (j : ℕ) → (i ≡ j → ⊥) → size_of (put_length ws i v) j ≡ size_of ws j
  size_other j ne = ap (λ (m : Item). m.length) (item_put_length_other ws i v j ne)

  pub size_place : (j : ℕ) → place_of (put_length ws i v) j ≡ place_of ws j
  size_place j = place_put_length ws i v j

module _ (ws : List ℕ) (u : ℕ) (g : Gaps) where
  pub bytes_length : length (put_bytes ws u g) ≡ length ws
  unfolding put_bytes
  bytes_length = whole_put_totals ws (with_bytes (totals_at ws) u g)

  pub bytes_item : (j : ℕ) → item_at (put_bytes ws u g) j ≡ item_at ws j
  unfolding put_bytes
  bytes_item j = item_put_totals ws (with_bytes (totals_at ws) u g) j

  pub bytes_place : (j : ℕ) → place_of (put_bytes ws u g) j ≡ place_of ws j
  bytes_place j = ap (λ (m : Item). m.place) (bytes_item j)

  pub bytes_size : (j : ℕ) → size_of (put_bytes ws u g) j ≡ size_of ws j
  bytes_size j = ap (λ (m : Item). m.length) (bytes_item j)

  pub bytes_totals : length ws ≡ 20768 → totals_at (put_bytes ws u g) ≡ with_bytes (totals_at ws) u g
  unfolding put_bytes
  bytes_totals l = totals_at_put ws (with_bytes (totals_at ws) u g) l (record { message_id_fits = (totals_at_fits ws).message_id_fits })

  pub bytes_used : length ws ≡ 20768 → used_of (put_bytes ws u g) ≡ u
  bytes_used l = ap (λ (t : Totals). t.used) (bytes_totals l)

  pub bytes_gaps : length ws ≡ 20768 → gaps_of (put_bytes ws u g) ≡ g
  bytes_gaps l = ap (λ (t : Totals). t.gaps) (bytes_totals l)
