-- A new receiver's tables: what is read of them. Assumes nothing.
use mathlib.Core.Path.{◌≡◌, refl, ◌∙◌, subst}
use mathlib.Core.Bool.{Bool, true, ◌&&◌}
use mathlib.Core.List.{List, [], ◌∷◌}
use Prim.Native.Nat.{ℕ, zero, suc, ◌+◌, ◌≤◌, ◌<◌}
use native.Mathlib.Omega.{arith}
use borrow.Author.Tests.{ltb-true, eq-eqb, ne_eqb}
use lib.Dec.{eqb, ltb}
use lib.ListN.{length}
use Rattle.queue_words.specs.Flags.{pick}
use Rattle.receiver_model.proofs.Lists.{and_left, and_right, equal, other, compare_same}
use Rattle.receiver_words.specs.Tables.{Table, Header, Links, rows, width, distinct, word_at, put_word}
use Rattle.receiver_words.specs.Chains.{free_to}
use Rattle.receiver_words.specs.Creation.{fill_to}
use Rattle.receiver_words.proofs.Laws.{whole_put_word, word_put_same, word_put_beside, word_put_other, word_put_table}

-- ------------------------------------------------------------------ a word of every row

module _ (z : Table) (ws : List ℕ) (k v : ℕ) where
  pub fill_long : (n : ℕ) → length (fill_to z ws k v n) ≡ length ws
  unfolding fill_to
  fill_long zero = refl
  fill_long (suc n) = whole_put_word z (fill_to z ws k v n) n k v ∙ fill_long n

  pub fill_same : (n j : ℕ) → length ws ≡ 83472 → n ≤ rows z → k < width z → j < n → word_at z (fill_to z ws k v n) j k ≡ v
  unfolding fill_to
  fill_same zero j l hn hk hj = absurd (omega arith)
  fill_same (suc n) j l hn hk hj = elim (compare_same n j) [
    | equal e ↦ subst (λ (i : ℕ). word_at z (put_word z (fill_to z ws k v n) n k v) i k ≡ v) e (word_put_same z (fill_to z ws k v n) n k v (fill_long n ∙ l) (omega arith) hk)
    | other d ↦ word_put_other z (fill_to z ws k v n) n k v j k d hk hk ∙ fill_same n j l (omega arith) hk (omega arith)
  ]

  -- another word of the rows
  pub fill_beside : (n j m : ℕ) → (k ≡ m → ⊥) → k < width z → m < width z → word_at z (fill_to z ws k v n) j m ≡ word_at z ws j m
  unfolding fill_to
  fill_beside zero j m ne hk hm = refl
  fill_beside (suc n) j m ne hk hm = elim (compare_same n j) [
    | equal e ↦ subst (λ (i : ℕ). word_at z (put_word z (fill_to z ws k v n) n k v) i m ≡ word_at z (fill_to z ws k v n) i m) e (word_put_beside z (fill_to z ws k v n) n k v m ne)
        ∙ fill_beside n j m ne hk hm
    | other d ↦ word_put_other z (fill_to z ws k v n) n k v j m d hk hm ∙ fill_beside n j m ne hk hm
  ]

  -- another table
  pub fill_table : (y : Table) (n j m : ℕ) → distinct z y ≡ true → n ≤ rows z → k < width z → j < rows y → m < width y → word_at y (fill_to z ws k v n) j m ≡ word_at y ws j m
  unfolding fill_to
  fill_table y zero j m d hn hk hj hm = refl
  fill_table y (suc n) j m d hn hk hj hm = word_put_table z y (fill_to z ws k v n) n k v j m d (omega arith) hj hk hm ∙ fill_table y n j m d (omega arith) hk hj hm

-- ------------------------------------------------------------------ the free rows

module _ (ws : List ℕ) where
  pub free_long : (n : ℕ) → length (free_to ws n) ≡ length ws
  unfolding free_to
  free_long zero = refl
  free_long (suc n) = whole_put_word Links (free_to ws n) n 3 (n + 1) ∙ free_long n

  pub free_next : (n j : ℕ) → length ws ≡ 83472 → n ≤ 4096 → j < n → word_at Links (free_to ws n) j 3 ≡ j + 1
  unfolding free_to
  free_next zero j l hn hj = absurd (omega arith)
  free_next (suc n) j l hn hj = elim (compare_same n j) [
    | equal e ↦ subst (λ (i : ℕ). word_at Links (put_word Links (free_to ws n) n 3 (n + 1)) i 3 ≡ i + 1) e (word_put_same Links (free_to ws n) n 3 (n + 1) (free_long n ∙ l) (omega arith) (omega arith))
    | other d ↦ word_put_other Links (free_to ws n) n 3 (n + 1) j 3 d (omega arith) (omega arith) ∙ free_next n j l (omega arith) (omega arith)
  ]

  pub free_table : (y : Table) (n j m : ℕ) → distinct Links y ≡ true → n ≤ 4096 → j < rows y → m < width y → word_at y (free_to ws n) j m ≡ word_at y ws j m
  unfolding free_to
  free_table y zero j m d hn hj hm = refl
  free_table y (suc n) j m d hn hj hm = word_put_table Links y (free_to ws n) n 3 (n + 1) j m d (omega arith) hj (omega arith) hm ∙ free_table y n j m d (omega arith) hj hm

-- ------------------------------------------------------------------ the header, word by word

-- words of the header and what is put there, the last one first
abbrev pub Puts : Type 0
Puts = List (ℕ × ℕ)

abbrev pub put_all : List ℕ → Puts → List ℕ
put_all ws [] = ws
put_all ws ((k, v) ∷ ps) = put_word Header (put_all ws ps) 0 k v

abbrev pub in_header : Puts → Bool
in_header [] = true
in_header ((k, v) ∷ ps) = ltb k 16 && in_header ps

-- what is then read
abbrev pub look_up : ℕ → Puts → ℕ → ℕ
look_up m [] d = d
look_up m ((k, v) ∷ ps) d = pick (eqb k m) v (look_up m ps d)

module _ (ws : List ℕ) where
  pub puts_long : (ps : Puts) → length (put_all ws ps) ≡ length ws
  puts_long [] = refl
  puts_long ((k, v) ∷ ps) = whole_put_word Header (put_all ws ps) 0 k v ∙ puts_long ps

  pub puts_read : (ps : Puts) (m : ℕ) → length ws ≡ 83472 → in_header ps ≡ true → word_at Header (put_all ws ps) 0 m ≡ look_up m ps (word_at Header ws 0 m)
  puts_read [] m l h = refl
  puts_read ((k, v) ∷ ps) m l h = elim (compare_same k m) [
    | equal e ↦ rw (eq-eqb k m e)
        (subst (λ (j : ℕ). word_at Header (put_word Header (put_all ws ps) 0 k v) 0 j ≡ v) e
        (word_put_same Header (put_all ws ps) 0 k v (puts_long ps ∙ l) (omega arith) (ltb-true k 16 (and_left (ltb k 16) (in_header ps) h))))
    | other d ↦ rw (ne_eqb k m d) (word_put_beside Header (put_all ws ps) 0 k v m d ∙ puts_read ps m l (and_right (ltb k 16) (in_header ps) h))
  ]

  pub puts_table : (y : Table) (ps : Puts) (j m : ℕ) → distinct Header y ≡ true → in_header ps ≡ true → j < rows y → m < width y → word_at y (put_all ws ps) j m ≡ word_at y ws j m
  puts_table y [] j m d h hj hm = refl
  puts_table y ((k, v) ∷ ps) j m d h hj hm =
      word_put_table Header y (put_all ws ps) 0 k v j m d (omega arith) hj (ltb-true k 16 (and_left (ltb k 16) (in_header ps) h)) hm
      ∙ puts_table y ps j m d (and_right (ltb k 16) (in_header ps) h) hj hm
