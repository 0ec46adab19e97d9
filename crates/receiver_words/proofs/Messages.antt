-- The chain of messages after one is put at its end, and after its first is taken. Assumes nothing.
use mathlib.Core.Path.{◌≡◌, refl, sym, ap, ◌∙◌, subst}
use mathlib.Core.List.{List, [], ◌∷◌, ◌++◌}
use Prim.Native.Nat.{ℕ, ◌+◌, ◌≤◌, ◌<◌}
use native.Mathlib.Omega.{arith}
use lib.ListN.{length}
use Rattle.receiver_model.specs.Lists.{count}
use Rattle.receiver_model.proofs.Lists.{count_nil, count_there, count_cons, equal, other, compare_same}
use Rattle.receiver_words.specs.Tables.{Header, Links, word_at, put_word}
use Rattle.receiver_words.specs.Chains.{put_end, append_message}
use Rattle.receiver_words.specs.Link.{Linked}
use Rattle.receiver_words.specs.Ages.{last_row, Lined}
use Rattle.receiver_words.proofs.Laws.{whole_put_word, word_put_same, word_put_beside, word_put_other, word_put_table}
use Rattle.receiver_words.proofs.Rows.{stands_here, tail_once, unlike_head, not_among}
use Rattle.receiver_words.proofs.Ends.{end_long, link_end_same, link_end_other, head_end_same, head_end_row}

-- ------------------------------------------------------------------ the last of a chain

-- it is one of the rows
pub last_in : (x : ℕ) (xs : List ℕ) → 0 < count (last_row x xs) (x ∷ xs)
last_in x [] = stands_here x []
last_in x (y ∷ ys) = let a = last_in y ys in let b = count_cons (last_row y ys) x (y ∷ ys) in omega arith

pub last_snoc : (d i : ℕ) (xs : List ℕ) → last_row d (xs ++ (i ∷ [])) ≡ i
last_snoc d i [] = refl
last_snoc d i (x ∷ xs) = last_snoc x i xs

pub linked_rows : (next : ℕ → ℕ) (p : ℕ) (xs : List ℕ) → Linked next p xs → (y : ℕ) → 0 < count y xs → y < 4096
linked_rows next p [] c y h = absurd (let z = count_nil y in omega arith)
linked_rows next p (x ∷ xs) (e, b, c) y h = elim (compare_same x y) [
  | equal s ↦ subst (λ (z : ℕ). z < 4096) s b
  | other ne ↦ (let a = count_there y x xs ne in linked_rows next (next x) xs c y (omega arith))
]

-- the last row is followed by row i, and that by none
pub linked_snoc : (next next' : ℕ → ℕ) (i p x : ℕ) (xs : List ℕ) → Linked next p (x ∷ xs) → ((y : ℕ) → count y (x ∷ xs) ≤ 1) → i < 4096 → next' i ≡ 4096 → next' (last_row x xs) ≡ i
    → ((y : ℕ) → 0 < count y (x ∷ xs) → y < 4096 → (last_row x xs ≡ y → ⊥) → next' y ≡ next y) → Linked next' p (x ∷ xs ++ (i ∷ []))
linked_snoc next next' i p x [] (e, b, c) once hi ei el f = (e, b, (el, hi, ei))
linked_snoc next next' i p x (y ∷ ys) (e, b, c) once hi ei el f = (
  e,
  b,
  subst (λ (r : ℕ). Linked next' r (y ∷ ys ++ (i ∷ []))) (sym (f x (stands_here x (y ∷ ys)) b (λ z. unlike_head x (last_row y ys) (y ∷ ys) once (last_in y ys) (sym z))))
      (linked_snoc next next' i (next x) y ys c (tail_once x (y ∷ ys) once) hi ei el (λ z h k ne. f z (let m = count_cons z x (y ∷ ys) in omega arith) k ne)),
)

-- ------------------------------------------------------------------ append_message

abbrev pub next_message : List ℕ → ℕ → ℕ
next_message ws x = word_at Links ws x 7

module _ (ws : List ℕ) (k i : ℕ) (long : length ws ≡ 83472) (hk : k < 15) (hi : i < 4096) where
  abbrev final : ℕ
  final = word_at Header ws 0 (k + 1)

  abbrev one : List ℕ
  one = put_word Links ws i 7 4096

  one_long : length one ≡ 83472
  one_long = whole_put_word Links ws i 7 4096 ∙ long

  abbrev two : List ℕ
  two = put_end one final 7 k i

  abbrev three : List ℕ
  three = put_word Header two 0 (k + 1) i

  down : (x : ℕ) → x < 4096 → next_message three x ≡ next_message two x
  down x hx = word_put_table Header Links two 0 (k + 1) i x 7 refl (omega arith) hx (omega arith) (omega arith)

  next_new : (final ≡ i → ⊥) → next_message three i ≡ 4096
  next_new ne =
      down i hi
      ∙ link_end_other one final 7 k i i 7 hi (omega arith) (omega arith) (omega arith) ne
      ∙ word_put_same Links ws i 7 4096 long hi (omega arith)

  next_final : final < 4096 → next_message three final ≡ i
  next_final b = down final b ∙ link_end_same one final 7 k i one_long b (omega arith)

  next_old : (x : ℕ) → x < 4096 → (i ≡ x → ⊥) → (final ≡ x → ⊥) → next_message three x ≡ next_message ws x
  next_old x hx ne nf =
      down x hx
      ∙ link_end_other one final 7 k i x 7 hx (omega arith) (omega arith) (omega arith) nf
      ∙ word_put_other Links ws i 7 4096 x 7 ne (omega arith) (omega arith)

  -- of every other row, the next is as it was
  pub append_next_other : (x : ℕ) → x < 4096 → (i ≡ x → ⊥) → (word_at Header ws 0 (k + 1) ≡ x → ⊥) → next_message (append_message ws k i) x ≡ next_message ws x
  unfolding append_message
  append_next_other x hx ne nf = next_old x hx ne nf

  first_new : 4096 ≤ final → word_at Header three 0 k ≡ i
  first_new b = word_put_beside Header two 0 (k + 1) i k (λ z. omega arith) ∙ head_end_same one final 7 k i one_long b (omega arith)

  first_kept : final < 4096 → word_at Header three 0 k ≡ word_at Header ws 0 k
  first_kept b =
      word_put_beside Header two 0 (k + 1) i k (λ z. omega arith)
      ∙ head_end_row one final 7 k i k b (omega arith) (omega arith)
      ∙ word_put_table Links Header ws i 7 4096 0 k refl hi (omega arith) (omega arith) (omega arith)

  last_new : word_at Header three 0 (k + 1) ≡ i
  last_new = word_put_same Header two 0 (k + 1) i (end_long one final 7 k i ∙ one_long) (omega arith) (omega arith)

  appended : (xs : List ℕ) → Lined ws k xs → ((y : ℕ) → count y xs ≤ 1) → count i xs ≡ 0 → Lined three k (xs ++ (i ∷ []))
  appended [] (c, e) once new = ((first_new (omega (arith, e)), hi, next_new (λ z. omega (arith, e, z))), last_new)
  appended (x ∷ xs) (c, e) once new =
      let among : 0 < count final (x ∷ xs) = subst (λ (y : ℕ). 0 < count y (x ∷ xs)) (sym e) (last_in x xs) in
      let b : final < 4096 = linked_rows (next_message ws) (word_at Header ws 0 k) (x ∷ xs) c final among in (
        subst (λ (r : ℕ). Linked (next_message three) r (x ∷ xs ++ (i ∷ []))) (sym (first_kept b))
            (linked_snoc (next_message ws) (next_message three) i (word_at Header ws 0 k) x xs c once hi (next_new (λ z. not_among i final (x ∷ xs) new among (sym z)))
            (ap (next_message three) (sym e) ∙ next_final b)
            (λ y h hy ne. next_old y hy (not_among i y (x ∷ xs) new h) (λ z. ne (sym e ∙ z)))),
        last_new ∙ sym (last_snoc x i xs),
      )

  -- the message whose first row is i is the last of them
  pub append_lined : (xs : List ℕ) → Lined ws k xs → ((y : ℕ) → count y xs ≤ 1) → count i xs ≡ 0 → Lined (append_message ws k i) k (xs ++ (i ∷ []))
  unfolding append_message
  append_lined xs c once new = appended xs c once new
