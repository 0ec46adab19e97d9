-- The age chain after a row becomes the newest, and after a row leaves it: the list of held rows changes by that row. Assumes nothing.
use mathlib.Core.Path.{◌≡◌, refl, sym, ap, ◌∙◌, subst}
use mathlib.Core.Logic.{◌⊎◌, inl, inr, ⊎_elim}
use mathlib.Core.List.{List, [], ◌∷◌}
use Prim.Native.Nat.{ℕ, ◌≤◌, ◌<◌}
use native.Mathlib.Omega.{arith}
use lib.ListN.{length}
use Rattle.receiver_model.specs.Lists.{count}
use Rattle.receiver_model.proofs.Lists.{count_nil, count_here, count_there, count_cons, equal, other, compare_same}
use Rattle.receiver_words.specs.Tables.{Header, Links, word_at, put_word}
use Rattle.receiver_words.specs.Chains.{put_end, link_newest, unlink_row}
use Rattle.receiver_words.specs.Link.{Linked}
use Rattle.receiver_words.specs.Ages.{without, Both, older, newer, newest, oldest, Aged}
use Rattle.receiver_words.proofs.Laws.{whole_put_word, word_put_same, word_put_beside, word_put_other, word_put_table}
use Rattle.receiver_words.proofs.Rows.{stands_here, head_once, tail_once, unlike_head, not_among, without_here, without_there, without_absent}
use Rattle.receiver_words.proofs.Ends.{link_beside, end_long, link_end_same, link_end_other, link_end_beside, head_end_same, head_end_row, head_end_beside}

-- ------------------------------------------------------------------ chains both ways

pub both_frame : (next back next' back' : ℕ → ℕ) (q p l : ℕ) (xs : List ℕ) → ((x : ℕ) → 0 < count x xs → x < 4096 → next' x ≡ next x)
    → ((x : ℕ) → 0 < count x xs → x < 4096 → back' x ≡ back x) → Both next back q p l xs → Both next' back' q p l xs
both_frame next back next' back' q p l [] f g c = c
both_frame next back next' back' q p l (x ∷ xs) f g (e, b, d, c) = (
  e,
  b,
  g x (stands_here x xs) b ∙ d,
  subst (λ (r : ℕ). Both next' back' x r l xs) (sym (f x (stands_here x xs) b))
      (both_frame next back next' back' x (next x) l xs
      (λ y h k. f y (let m = count_cons y x xs in omega arith) k)
      (λ y h k. g y (let m = count_cons y x xs in omega arith) k)
      c),
)

module _ (next back : ℕ → ℕ) (l : ℕ) where
  -- its rows are rows
  pub both_rows : (q p : ℕ) (xs : List ℕ) → Both next back q p l xs → (y : ℕ) → 0 < count y xs → y < 4096
  both_rows q p [] c y h = absurd (let z = count_nil y in omega arith)
  both_rows q p (x ∷ xs) (e, b, d, c) y h = elim (compare_same x y) [
    | equal s ↦ subst (λ (z : ℕ). z < 4096) s b
    | other ne ↦ (let a = count_there y x xs ne in both_rows x (next x) xs c y (omega arith))
  ]

  pub both_linked : (q p : ℕ) (xs : List ℕ) → Both next back q p l xs → Linked next p xs
  both_linked q p [] (e, d) = e
  both_linked q p (x ∷ xs) (e, b, d, c) = (e, b, both_linked x (next x) xs c)

  first_in : (q p : ℕ) (xs : List ℕ) → Both next back q p l xs → p < 4096 → 0 < count p xs
  first_in q p [] (e, d) h = absurd (omega arith)
  first_in q p (x ∷ xs) (e, b, d, c) h = let a = count_here p x xs (sym e) in omega arith

  -- the first row leads back to q
  pub head_back : (i q p : ℕ) (xs : List ℕ) → Both next back q p l xs → p ≡ i → i < 4096 → back i ≡ q
  head_back i q p [] (e, d) s h = absurd (omega arith)
  head_back i q p (x ∷ xs) (e, b, d, c) s h = ap back (sym s ∙ e) ∙ d

  -- a row is the first, or leads back to one of the rows
  pub back_in : (i q p : ℕ) (xs : List ℕ) → Both next back q p l xs → 0 < count i xs → ((p ≡ i) × (back i ≡ q)) ⊎ (0 < count (back i) xs)
  back_in i q p [] c h = absurd (let z = count_nil i in omega arith)
  back_in i q p (x ∷ xs) (e, b, d, c) h = elim (compare_same x i) [
    | equal s ↦ inl (e ∙ s, ap back (sym s) ∙ d)
    | other ne ↦ (let a = count_there i x xs ne in
        ⊎_elim
        (λ m. inr (let k = count_here (back i) x xs (sym m.1) in omega arith))
        (λ m. inr (let k = count_cons (back i) x xs in omega arith))
        (back_in i x (next x) xs c (omega arith)))
  ]

  -- the row that follows one of the rows is one of them
  pub next_in : (i q p : ℕ) (xs : List ℕ) → Both next back q p l xs → 0 < count i xs → next i < 4096 → 0 < count (next i) xs
  next_in i q p [] c h k = absurd (let z = count_nil i in omega arith)
  next_in i q p (x ∷ xs) (e, b, d, c) h k = elim (compare_same x i) [
    | equal s ↦ (let f : 0 < count (next i) xs = subst (λ (y : ℕ). 0 < count (next y) xs) s (first_in x (next x) xs c (subst (λ (y : ℕ). next y < 4096) (sym s) k)) in
        let m = count_cons (next i) x xs in omega arith)
    | other ne ↦ (let a = count_there i x xs ne in let f = next_in i x (next x) xs c (omega arith) k in let m = count_cons (next i) x xs in omega arith)
  ]

-- ------------------------------------------------------------------ a row taken out: the two beside it are neighbours

-- behind it
cut_tail : (next back next' back' : ℕ → ℕ) (i o n l l' : ℕ) (zs : List ℕ) → Both next back i o l zs → ((y : ℕ) → count y zs ≤ 1) → (o < 4096 → back' o ≡ n) → (o < 4096 → l' ≡ l)
    → (4096 ≤ o → l' ≡ n) → ((x : ℕ) → 0 < count x zs → x < 4096 → next' x ≡ next x) → ((x : ℕ) → 0 < count x zs → x < 4096 → (o ≡ x → ⊥) → back' x ≡ back x)
    → Both next' back' n o l' zs
cut_tail next back next' back' i o n l l' [] (e, d) once at_o lk ln f g = (e, ln (omega (arith, e)))
cut_tail next back next' back' i o n l l' (z ∷ zs) (e, b, d, c) once at_o lk ln f g =
    let ho : o < 4096 = omega (arith, e) in (
      e,
      b,
      subst (λ (y : ℕ). back' y ≡ n) e (at_o ho),
      subst (λ (r : ℕ). Both next' back' z r l' zs) (sym (f z (stands_here z zs) b))
          (subst (λ (m : ℕ). Both next' back' z (next z) m zs) (sym (lk ho))
          (both_frame next back next' back' z (next z) l zs
          (λ y h k. f y (let m = count_cons y z zs in omega arith) k)
          (λ y h k. g y (let m = count_cons y z zs in omega arith) k (λ s. unlike_head z y zs once h (sym e ∙ s)))
          c)),
    )

module _ (next back next' back' : ℕ → ℕ) (i l l' : ℕ) (hi : i < 4096) (at_n : back i < 4096 → next' (back i) ≡ next i) (next_other : (x : ℕ) → x < 4096 → (back i ≡ x → ⊥) → next' x ≡ next x)
    (at_o : next i < 4096 → back' (next i) ≡ back i) (back_other : (x : ℕ) → x < 4096 → (next i ≡ x → ⊥) → back' x ≡ back x) (last_kept : next i < 4096 → l' ≡ l)
    (last_new : 4096 ≤ next i → l' ≡ back i) where
  -- it is the first
  cut_here : (q x : ℕ) (xs : List ℕ) → x ≡ i → back x ≡ q → Both next back x (next x) l xs → ((y : ℕ) → count y (x ∷ xs) ≤ 1) → count q (x ∷ xs) ≡ 0 → Both next' back' q (next i) l' xs
  cut_here q x xs s d c once fresh =
      let n : back i ≡ q = ap back (sym s) ∙ d in
      subst (λ (r : ℕ). Both next' back' r (next i) l' xs) n
      (cut_tail next back next' back' i (next i) (back i) l l' xs (subst (λ (y : ℕ). Both next back y (next y) l xs) s c) (tail_once x xs once) at_o last_kept last_new
      (λ y h k. next_other y k (λ z. not_among q y xs (let m = count_cons q x xs in omega arith) h (sym n ∙ z)))
      (λ y h k ne. back_other y k ne))

  pub cut : (q p p' : ℕ) (xs : List ℕ) → Both next back q p l xs → ((y : ℕ) → count y xs ≤ 1) → count q xs ≡ 0 → 0 < count i xs → (p ≡ i → p' ≡ next i) → ((p ≡ i → ⊥) → p' ≡ p)
      → Both next' back' q p' l' (without i xs)
  cut q p p' [] c once fresh h fi fo = absurd (let z = count_nil i in omega arith)
  cut q p p' (x ∷ xs) (e, b, d, c) once fresh h fi fo = elim (compare_same x i) [
    | equal s ↦ subst (λ (ys : List ℕ). Both next' back' q p' l' ys) (sym (without_here i x xs s ∙ without_absent i xs (ap (λ (y : ℕ). count y xs) (sym s) ∙ head_once x xs once)))
        (subst (λ (r : ℕ). Both next' back' q r l' xs) (sym (fi (e ∙ s))) (cut_here q x xs s d c once fresh))
    | other ne ↦ subst (λ (ys : List ℕ). Both next' back' q p' l' ys) (sym (without_there i x xs ne)) (
      fo (λ z. ne (sym e ∙ z)) ∙ e,
      b,
      back_other x b (λ z. unlike_head x (next i) xs once (next_in next back l i x (next x) xs c (among ne) (omega (arith, z))) (sym z)) ∙ d,
      cut x (next x) (next' x) xs c (tail_once x xs once) (head_once x xs once) (among ne)
          (λ z. let k = head_back next back l i x (next x) xs c z hi in ap next' (sym k) ∙ at_n (omega (arith, k)))
          (λ z. next_other x b (λ s. ⊎_elim (λ m. z m.0) (λ m. unlike_head x (back i) xs once m (sym s)) (back_in next back l i x (next x) xs c (among ne)))),
    )
  ]
    where
      among : (x ≡ i → ⊥) → 0 < count i xs
      among d = let a = count_there i x xs d in omega arith

-- ------------------------------------------------------------------ unlink_row

module _ (ws : List ℕ) (i : ℕ) (xs : List ℕ) (long : length ws ≡ 83472) (hi : i < 4096) (c : Aged ws xs) (once : (y : ℕ) → count y xs ≤ 1) (h : 0 < count i xs) where
  abbrev o : ℕ
  o = older ws i

  abbrev n : ℕ
  n = newer ws i

  abbrev inner : List ℕ
  inner = put_end ws n 3 8 o

  inner_long : length inner ≡ 83472
  inner_long = end_long ws n 3 8 o ∙ long

  abbrev after : List ℕ
  after = put_end inner o 4 9 n

  older_after : (x : ℕ) → x < 4096 → older after x ≡ older inner x
  older_after x hx = link_end_beside inner o 4 9 n x 3 hx (omega arith) (omega arith) (omega arith) (λ z. omega arith)

  newest_first : newest ws ≡ i → newest after ≡ o
  newest_first z =
      let k = head_back (older ws) (newer ws) (oldest ws) i 4096 (newest ws) xs c z hi in
      head_end_beside inner o 4 9 n 8 (omega arith) (omega arith) (λ e. omega arith) ∙ head_end_same ws n 3 8 o long (omega (arith, k)) (omega arith)

  newest_other : (newest ws ≡ i → ⊥) → newest after ≡ newest ws
  newest_other z =
      let b : n < 4096 = ⊎_elim (λ m. absurd (z m.0)) (λ m. both_rows (older ws) (newer ws) (oldest ws) 4096 (newest ws) xs c n m) (back_in (older ws) (newer ws) (oldest ws) i 4096 (newest ws) xs c h) in
      head_end_beside inner o 4 9 n 8 (omega arith) (omega arith) (λ e. omega arith) ∙ head_end_row ws n 3 8 o 8 b (omega arith) (omega arith)

  taken_out : Aged after (without i xs)
  taken_out =
      cut (older ws) (newer ws) (older after) (newer after) i (oldest ws) (oldest after) hi
      (λ b. older_after n b ∙ link_end_same ws n 3 8 o long b (omega arith))
      (λ x hx ne. older_after x hx ∙ link_end_other ws n 3 8 o x 3 hx (omega arith) (omega arith) (omega arith) ne)
      (λ b. link_end_same inner o 4 9 n inner_long b (omega arith))
      (λ x hx ne. link_end_other inner o 4 9 n x 4 hx (omega arith) (omega arith) (omega arith) ne ∙ link_end_beside ws n 3 8 o x 4 hx (omega arith) (omega arith) (omega arith) (λ z. omega arith))
      (λ b. head_end_row inner o 4 9 n 9 b (omega arith) (omega arith) ∙ head_end_beside ws n 3 8 o 9 (omega arith) (omega arith) (λ z. omega arith))
      (λ b. head_end_same inner o 4 9 n inner_long b (omega arith))
      4096 (newest ws) (newest after) xs c once no_end h newest_first newest_other
    where
      no_end : count 4096 xs ≡ 0
      no_end = elim (compare_same (count 4096 xs) 0) [
        | equal e ↦ e
        | other ne ↦ absurd (let b = both_rows (older ws) (newer ws) (oldest ws) 4096 (newest ws) xs c 4096 (omega arith) in omega arith)
      ]

  -- row i is held no longer, the others are, in their order
  pub unlink_aged : Aged (unlink_row ws i) (without i xs)
  unfolding unlink_row
  unlink_aged = taken_out

-- ------------------------------------------------------------------ link_newest

module _ (ws : List ℕ) (i : ℕ) (long : length ws ≡ 83472) (hi : i < 4096) where
  abbrev first : ℕ
  first = newest ws

  abbrev one : List ℕ
  one = put_word Links ws i 3 first

  abbrev two : List ℕ
  two = put_word Links one i 4 4096

  two_long : length two ≡ 83472
  two_long = whole_put_word Links one i 4 4096 ∙ whole_put_word Links ws i 3 first ∙ long

  abbrev three : List ℕ
  three = put_end two first 4 9 i

  abbrev four : List ℕ
  four = put_word Header three 0 8 i

  -- the last store changes no link
  down : (x m : ℕ) → x < 4096 → m < 8 → word_at Links four x m ≡ word_at Links three x m
  down x m hx hm = word_put_table Header Links three 0 8 i x m refl (omega arith) hx (omega arith) hm

  newest_four : newest four ≡ i
  newest_four = word_put_same Header three 0 8 i (end_long two first 4 9 i ∙ two_long) (omega arith) (omega arith)

  older_new : older four i ≡ first
  older_new =
      down i 3 hi (omega arith)
      ∙ link_end_beside two first 4 9 i i 3 hi (omega arith) (omega arith) (omega arith) (λ z. omega arith)
      ∙ word_put_beside Links one i 4 4096 3 (λ z. omega arith)
      ∙ word_put_same Links ws i 3 first long hi (omega arith)

  older_old : (x : ℕ) → x < 4096 → (i ≡ x → ⊥) → older four x ≡ older ws x
  older_old x hx ne =
      down x 3 hx (omega arith)
      ∙ link_end_beside two first 4 9 i x 3 hx (omega arith) (omega arith) (omega arith) (λ z. omega arith)
      ∙ word_put_other Links one i 4 4096 x 3 ne (omega arith) (omega arith)
      ∙ word_put_other Links ws i 3 first x 3 ne (omega arith) (omega arith)

  newer_new : (first ≡ i → ⊥) → newer four i ≡ 4096
  newer_new ne =
      down i 4 hi (omega arith)
      ∙ link_end_other two first 4 9 i i 4 hi (omega arith) (omega arith) (omega arith) ne
      ∙ word_put_same Links one i 4 4096 (whole_put_word Links ws i 3 first ∙ long) hi (omega arith)

  newer_first : first < 4096 → newer four first ≡ i
  newer_first b = down first 4 b (omega arith) ∙ link_end_same two first 4 9 i two_long b (omega arith)

  newer_old : (x : ℕ) → x < 4096 → (i ≡ x → ⊥) → (first ≡ x → ⊥) → newer four x ≡ newer ws x
  newer_old x hx ne nf =
      down x 4 hx (omega arith)
      ∙ link_end_other two first 4 9 i x 4 hx (omega arith) (omega arith) (omega arith) nf
      ∙ word_put_other Links one i 4 4096 x 4 ne (omega arith) (omega arith)
      ∙ link_beside ws i 3 first x 4 (omega arith) (omega arith) (λ z. omega arith)

  oldest_kept : first < 4096 → oldest four ≡ oldest ws
  oldest_kept b =
      word_put_beside Header three 0 8 i 9 (λ z. omega arith)
      ∙ head_end_row two first 4 9 i 9 b (omega arith) (omega arith)
      ∙ word_put_table Links Header one i 4 4096 0 9 refl hi (omega arith) (omega arith) (omega arith)
      ∙ word_put_table Links Header ws i 3 first 0 9 refl hi (omega arith) (omega arith) (omega arith)

  oldest_new : 4096 ≤ first → oldest four ≡ i
  oldest_new b = word_put_beside Header three 0 8 i 9 (λ z. omega arith) ∙ head_end_same two first 4 9 i two_long b (omega arith)

  linked_in : (xs : List ℕ) → Aged ws xs → ((y : ℕ) → count y xs ≤ 1) → count i xs ≡ 0 → Aged four (i ∷ xs)
  linked_in [] (e, d) once new = (newest_four, hi, newer_new (λ z. omega (arith, e, z)), (older_new ∙ e, oldest_new (omega (arith, e))))
  linked_in (x ∷ xs) (e, b, d, c) once new = (
    newest_four,
    hi,
    newer_new (λ z. not_among i x (x ∷ xs) new (stands_here x xs) (sym z ∙ e)),
    (
      older_new ∙ e,
      b,
      ap (newer four) (sym e) ∙ newer_first (omega (arith, e)),
      subst (λ (r : ℕ). Both (older four) (newer four) x r (oldest four) xs) (sym (older_old x b (not_among i x (x ∷ xs) new (stands_here x xs))))
          (subst (λ (m : ℕ). Both (older four) (newer four) x (older ws x) m xs) (sym (oldest_kept (omega (arith, e))))
          (both_frame (older ws) (newer ws) (older four) (newer four) x (older ws x) (oldest ws) xs
          (λ y h k. older_old y k (not_among i y xs tail_new h))
          (λ y h k. newer_old y k (not_among i y xs tail_new h) (λ z. unlike_head x y xs once h (sym e ∙ z)))
          c)),
    ),
  )
    where
      tail_new : count i xs ≡ 0
      tail_new = let m = count_cons i x xs in omega arith

  -- row i is the newest held row, before the others
  pub link_aged : (xs : List ℕ) → Aged ws xs → ((y : ℕ) → count y xs ≤ 1) → count i xs ≡ 0 → Aged (link_newest ws i) (i ∷ xs)
  unfolding link_newest
  link_aged xs c once new = linked_in xs c once new
