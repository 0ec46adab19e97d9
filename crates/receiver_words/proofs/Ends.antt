-- What is read after an end of a chain is stored: in a row's link, or in the header where there is no row. Assumes nothing.
use mathlib.Core.Path.{◌≡◌, refl, ap, ◌∙◌, subst}
use mathlib.Core.Bool.{true}
use mathlib.Core.List.{List}
use Prim.Native.Nat.{ℕ, ◌≤◌, ◌<◌}
use native.Mathlib.Omega.{arith}
use borrow.Author.Tests.{lt-ltb, le-ltb}
use lib.ListN.{length}
use Rattle.receiver_model.proofs.Lists.{equal, other, compare_same}
use Rattle.receiver_words.specs.Tables.{Table, Header, Links, rows, distinct, word_at, put_word, row_at}
use Rattle.receiver_words.specs.Chains.{put_end}
use Rattle.receiver_words.proofs.Laws.{whole_put_word, word_put_same, word_put_beside, word_put_other, word_put_table, row_put_word_table}
use Rattle.receiver_words.proofs.Rows.{by_row}

-- another word of any row, after a word of one
pub link_beside : (ws : List ℕ) (p k v x m : ℕ) → k < 8 → m < 8 → (k ≡ m → ⊥) → word_at Links (put_word Links ws p k v) x m ≡ word_at Links ws x m
link_beside ws p k v x m hk hm ne = elim (compare_same p x) [
  | equal e ↦ subst (λ (y : ℕ). word_at Links (put_word Links ws p k v) y m ≡ word_at Links ws y m) e (word_put_beside Links ws p k v m ne)
  | other d ↦ word_put_other Links ws p k v x m d hk hm
]

module _ (ws : List ℕ) (p k h v : ℕ) where
  pub end_row : p < 4096 → put_end ws p k h v ≡ put_word Links ws p k v
  unfolding put_end
  end_row b = rw (lt-ltb p 4096 b)

  pub end_none : 4096 ≤ p → put_end ws p k h v ≡ put_word Header ws 0 h v
  unfolding put_end
  end_none b = rw (le-ltb p 4096 b)

  pub end_long : length (put_end ws p k h v) ≡ length ws
  end_long = by_row p (λ b. ap length (end_row b) ∙ whole_put_word Links ws p k v) (λ b. ap length (end_none b) ∙ whole_put_word Header ws 0 h v)

  pub link_end_same : length ws ≡ 83472 → p < 4096 → k < 8 → word_at Links (put_end ws p k h v) p k ≡ v
  link_end_same l b hk = ap (λ (r : List ℕ). word_at Links r p k) (end_row b) ∙ word_put_same Links ws p k v l b hk

  pub link_end_other : (x m : ℕ) → x < 4096 → k < 8 → m < 8 → h < 16 → (p ≡ x → ⊥) → word_at Links (put_end ws p k h v) x m ≡ word_at Links ws x m
  link_end_other x m hx hk hm hh ne =
      by_row p
      (λ b. ap (λ (r : List ℕ). word_at Links r x m) (end_row b) ∙ word_put_other Links ws p k v x m ne hk hm)
      (λ b. ap (λ (r : List ℕ). word_at Links r x m) (end_none b) ∙ word_put_table Header Links ws 0 h v x m refl (omega arith) hx hh hm)

  pub link_end_beside : (x m : ℕ) → x < 4096 → k < 8 → m < 8 → h < 16 → (k ≡ m → ⊥) → word_at Links (put_end ws p k h v) x m ≡ word_at Links ws x m
  link_end_beside x m hx hk hm hh ne =
      by_row p
      (λ b. ap (λ (r : List ℕ). word_at Links r x m) (end_row b) ∙ link_beside ws p k v x m hk hm ne)
      (λ b. ap (λ (r : List ℕ). word_at Links r x m) (end_none b) ∙ word_put_table Header Links ws 0 h v x m refl (omega arith) hx hh hm)

  pub head_end_same : length ws ≡ 83472 → 4096 ≤ p → h < 16 → word_at Header (put_end ws p k h v) 0 h ≡ v
  head_end_same l b hh = ap (λ (r : List ℕ). word_at Header r 0 h) (end_none b) ∙ word_put_same Header ws 0 h v l (omega arith) hh

  pub head_end_row : (m : ℕ) → p < 4096 → k < 8 → m < 16 → word_at Header (put_end ws p k h v) 0 m ≡ word_at Header ws 0 m
  head_end_row m b hk hm = ap (λ (r : List ℕ). word_at Header r 0 m) (end_row b) ∙ word_put_table Links Header ws p k v 0 m refl b (omega arith) hk hm

  pub head_end_beside : (m : ℕ) → k < 8 → m < 16 → (h ≡ m → ⊥) → word_at Header (put_end ws p k h v) 0 m ≡ word_at Header ws 0 m
  head_end_beside m hk hm ne =
      by_row p
      (λ b. head_end_row m b hk hm)
      (λ b. ap (λ (r : List ℕ). word_at Header r 0 m) (end_none b) ∙ word_put_beside Header ws 0 h v m ne)

  pub table_end : (z : Table) (j : ℕ) → distinct Links z ≡ true → distinct Header z ≡ true → j < rows z → k < 8 → h < 16 → row_at z (put_end ws p k h v) j ≡ row_at z ws j
  table_end z j dl dh hj hk hh =
      by_row p
      (λ b. ap (λ (r : List ℕ). row_at z r j) (end_row b) ∙ row_put_word_table Links z ws p k v j dl b hj hk)
      (λ b. ap (λ (r : List ℕ). row_at z r j) (end_none b) ∙ row_put_word_table Header z ws 0 h v j dh (omega arith) hj hh)
