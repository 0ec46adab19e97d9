-- The model's held fragments are those of the held rows: what is asked of all of them, how many they are, how many bytes they have. Assumes nothing.
use mathlib.Core.Path.{◌≡◌, refl, sym, ap, ap₂, ◌∙◌, subst}
use mathlib.Core.Bool.{Bool, true, false, not}
use mathlib.Core.List.{List, [], ◌∷◌, ◌++◌, map}
use Prim.Native.Nat.{ℕ, ◌+◌, ◌≤◌, ◌<◌}
use native.Mathlib.Omega.{arith}
use lib.ListN.{length}
use Rattle.queue_words.specs.Flags.{bit}
use Rattle.queue_model.specs.Logic.{any}
use Rattle.queue_model.specs.Table.{sum_by}
use Rattle.receiver_model.specs.Lists.{count, join}
use Rattle.receiver_model.specs.Types.{Chunk, fragments}
use Rattle.receiver_model.specs.Receive as model
use Rattle.receiver_model.proofs.Lists.{Value, yes_is, no_is, value, count_nil, count_there, count_cons, count_append, count_keep_yes, count_keep_no, Same, equal, other, compare_same}
use Rattle.receiver_words.specs.Ages.{without, older, newer, newest, oldest}
use Rattle.receiver_words.proofs.Rows.{stands_here, head_once, tail_once, count_without, count_without_other}
use Rattle.receiver_words.proofs.Ages.{both_rows}
use Rattle.receiver_messages.specs.Walks.{is_whole}
use Rattle.receiver_store.specs.Words.{size_of, used_of, payload_of}
use Rattle.receiver_store.proofs.Orders.{sum_same, sum_without}
use Rattle.receiver_store.proofs.Laws.{payload_length}
use Rattle.linked_receiver.specs.Rows.{loose_rows}
use Rattle.linked_receiver.specs.Good.{Ghost, rows_of, whole_rows, GoodReceiver, chunk_in, stands}
use Rattle.linked_receiver.proofs.Lists.{count_kept, few}

-- ------------------------------------------------------------------ lists

pub map_append : {A B : Type 0} (f : A → B) (xs ys : List A) → map f (xs ++ ys) ≡ map f xs ++ map f ys
map_append f [] ys = refl
map_append f (x ∷ xs) ys = ap (◌∷◌ (f x)) (map_append f xs ys)

-- the rows of messages, of two lists of them
pub rows_append : (tail : ℕ → List ℕ) (hs ks : List ℕ) → rows_of tail (hs ++ ks) ≡ rows_of tail hs ++ rows_of tail ks
unfolding join
rows_append tail [] ks = refl
rows_append tail (h ∷ hs) ks = ap (λ (xs : List ℕ). (h ∷ tail h) ++ xs) (rows_append tail hs ks) ∙ sym (assoc (h ∷ tail h) (rows_of tail hs) (rows_of tail ks))
  where
    assoc : (xs ys zs : List ℕ) → (xs ++ ys) ++ zs ≡ xs ++ (ys ++ zs)
    assoc [] ys zs = refl
    assoc (x ∷ xs) ys zs = ap (◌∷◌ x) (assoc xs ys zs)

pub chunks_of : (chunk : ℕ → Chunk) (tail : ℕ → List ℕ) (hs : List ℕ)
    → join (map fragments (map (λ (h : ℕ). record { head = chunk h; tail = map chunk (tail h) }) hs)) ≡ map chunk (rows_of tail hs)
unfolding join
chunks_of chunk tail [] = refl
chunks_of chunk tail (h ∷ hs) = ap (λ (cs : List Chunk). (chunk h ∷ map chunk (tail h)) ++ cs) (chunks_of chunk tail hs) ∙ sym (map_append chunk (h ∷ tail h) (rows_of tail hs))

-- a test of every fragment of some rows
pub data AnyRow (chunk : ℕ → Chunk) (test : Chunk → Bool) (xs : List ℕ) : Type 0 where
  one_passes : (x : ℕ) → 0 < count x xs → test (chunk x) ≡ true → any test (map chunk xs) ≡ true → AnyRow chunk test xs
  none_passes : ((x : ℕ) → 0 < count x xs → test (chunk x) ≡ false) → any test (map chunk xs) ≡ false → AnyRow chunk test xs

pub any_row : (chunk : ℕ → Chunk) (test : Chunk → Bool) (xs : List ℕ) → AnyRow chunk test xs
unfolding any
any_row chunk test [] = none_passes (λ x h. absurd (let z = count_nil x in omega arith)) refl
any_row chunk test (x ∷ xs) = go (value (test (chunk x))) (any_row chunk test xs)
  where
    go : Value (test (chunk x)) → AnyRow chunk test xs → AnyRow chunk test (x ∷ xs)
    go (yes_is e) r = one_passes x (stands_here x xs) e (rw e)
    go (no_is e) (one_passes y h t a) = one_passes y (let c = count_cons y x xs in omega arith) t (rw e a)
    go (no_is e) (none_passes n a) = none_passes (λ y h. elim (compare_same x y) [
      | equal s ↦ ap (λ (z : ℕ). test (chunk z)) (sym s) ∙ e
      | other d ↦ n y (let c = count_there y x xs d in omega arith)
    ]) (rw e a)

-- rows that stand once, in any order
pub sum_any_order : (f : ℕ → ℕ) (xs ys : List ℕ) → ((x : ℕ) → count x xs ≤ 1) → ((x : ℕ) → count x xs ≡ count x ys) → sum_by f xs ≡ sum_by f ys
sum_any_order f [] [] once same = refl
sum_any_order f [] (y ∷ ys) once same = absurd (let a = same y in let b = stands_here y ys in let z = count_nil y in omega arith)
sum_any_order f (x ∷ xs) ys once same =
    let a : 0 < count x ys = let s = same x in let b = stands_here x xs in omega arith in
    let o : (y : ℕ) → count y ys ≤ 1 = λ y. let s = same y in let c = once y in omega arith in
    let ih = sum_any_order f xs (without x ys) (tail_once x xs once) (λ y. elim (compare_same x y) [
      | equal e ↦ (let p : count y (without x ys) ≡ 0 = subst (λ (z : ℕ). count z (without x ys) ≡ 0) e (count_without x ys) in
          let q : count y xs ≡ 0 = subst (λ (z : ℕ). count z xs ≡ 0) e (head_once x xs once) in omega arith)
      | other d ↦ sym (count_there y x xs d) ∙ same y ∙ sym (count_without_other x y ys (λ e. d (sym e)))
    ]) in
    ap (λ (n : ℕ). f x + n) ih ∙ sym (sum_without f x ys o a)

sum_map : {A : Type 0} (f : A → ℕ) (g : ℕ → A) (xs : List ℕ) → sum_by f (map g xs) ≡ sum_by (λ (x : ℕ). f (g x)) xs
sum_map f g [] = refl
sum_map f g (x ∷ xs) = ap (λ (n : ℕ). f (g x) + n) (sum_map f g xs)

length_sum : {A : Type 0} (xs : List A) → length xs ≡ sum_by (λ (x : A). 1) xs
length_sum [] = refl
length_sum (x ∷ xs) = let ih = length_sum xs in omega arith

-- ------------------------------------------------------------------ the held rows

module _ (g : Ghost) (ws st : List ℕ) (good : GoodReceiver g ws st) where
  pub held_row : (x : ℕ) → 0 < count x g.held → x < 4096
  held_row x h = both_rows (older ws) (newer ws) (oldest ws) 4096 (newest ws) g.held good.aged x h

  pub held_once : (x : ℕ) → count x g.held ≤ 1
  held_once x = elim (compare_same (count x g.held) 0) [
    | equal z ↦ omega arith
    | other d ↦ (let c = good.cover x (held_row x (omega arith)) in omega arith)
  ]

  pub held_few : length g.held ≤ 4096
  held_few = few 4096 g.held held_once held_row

  abbrev pub rows : List ℕ
  rows = (loose_rows ws g.held ++ rows_of g.tail g.waiting) ++ rows_of g.tail g.ready

  whole_count : (x : ℕ) → count x (whole_rows g) ≡ count x (rows_of g.tail g.waiting) + count x (rows_of g.tail g.ready)
  whole_count x = ap (count x) (rows_append g.tail g.waiting g.ready) ∙ count_append x (rows_of g.tail g.waiting) (rows_of g.tail g.ready)

  -- each held row is loose or in a whole message
  pub rows_are_held : (x : ℕ) → count x rows ≡ count x g.held
  rows_are_held x = go (compare_same (count x g.held) 0) (value (is_whole ws x))
    where
      all : count x rows ≡ count x (loose_rows ws g.held) + count x (whole_rows g)
      all =
          let a = count_append x (loose_rows ws g.held ++ rows_of g.tail g.waiting) (rows_of g.tail g.ready) in
          let b = count_append x (loose_rows ws g.held) (rows_of g.tail g.waiting) in
          let w = whole_count x in
          omega arith

      go : Same (count x g.held) 0 → Value (is_whole ws x) → count x rows ≡ count x g.held
      go (equal z) v = let a = all in let b = good.whole_held x in let c = count_kept x (λ (y : ℕ). not (is_whole ws y)) g.held in omega arith
      go (other d) (yes_is e) =
          let m : count x (whole_rows g) ≡ 1 = good.marked x (omega arith) ∙ ap bit e in
          let l = count_keep_no x (λ (y : ℕ). not (is_whole ws y)) g.held (ap not e) in
          let a = all in let o = held_once x in omega arith
      go (other d) (no_is e) =
          let m : count x (whole_rows g) ≡ 0 = good.marked x (omega arith) ∙ ap bit e in
          let l = count_keep_yes x (λ (y : ℕ). not (is_whole ws y)) g.held (ap not e) in
          let a = all in omega arith

  -- the model's held fragments
  pub held_is : model.held (stands g ws st) ≡ map (chunk_in ws st) rows
  unfolding model.held
  held_is =
      ap₂ (λ (cs ds : List Chunk). (map (chunk_in ws st) (loose_rows ws g.held) ++ cs) ++ ds) (chunks_of (chunk_in ws st) g.tail g.waiting) (chunks_of (chunk_in ws st) g.tail g.ready)
      ∙ ap (λ (cs : List Chunk). cs ++ map (chunk_in ws st) (rows_of g.tail g.ready)) (sym (map_append (chunk_in ws st) (loose_rows ws g.held) (rows_of g.tail g.waiting)))
      ∙ sym (map_append (chunk_in ws st) (loose_rows ws g.held ++ rows_of g.tail g.waiting) (rows_of g.tail g.ready))

  -- a test of all of them is one of every held row
  pub data AnyHeld (test : Chunk → Bool) : Type 0 where
    one_held : (x : ℕ) → 0 < count x g.held → test (chunk_in ws st x) ≡ true → any test (model.held (stands g ws st)) ≡ true → AnyHeld test
    none_held : ((x : ℕ) → 0 < count x g.held → test (chunk_in ws st x) ≡ false) → any test (model.held (stands g ws st)) ≡ false → AnyHeld test

  pub any_held : (test : Chunk → Bool) → AnyHeld test
  any_held test = go (any_row (chunk_in ws st) test rows)
    where
      go : AnyRow (chunk_in ws st) test rows → AnyHeld test
      go (one_passes x h t a) = one_held x (let c = rows_are_held x in omega arith) t (ap (any test) held_is ∙ a)
      go (none_passes n a) = none_held (λ x h. n x (let c = rows_are_held x in omega arith)) (ap (any test) held_is ∙ a)

  rows_once : (x : ℕ) → count x rows ≤ 1
  rows_once x = let a = rows_are_held x in let b = held_once x in omega arith

  -- how many
  pub held_length : length (model.held (stands g ws st)) ≡ length g.held
  held_length =
      ap length held_is ∙ length_sum (map (chunk_in ws st) rows) ∙ sum_map (λ (c : Chunk). 1) (chunk_in ws st) rows
      ∙ sum_any_order (λ (x : ℕ). 1) rows g.held rows_once rows_are_held
      ∙ sym (length_sum g.held)

  -- their bytes
  pub used_is : model.used (stands g ws st) ≡ used_of ws
  unfolding model.used
  used_is =
      ap (sum_by (λ (c : Chunk). length c.bytes)) held_is
      ∙ sum_map (λ (c : Chunk). length c.bytes) (chunk_in ws st) rows
      ∙ sum_any_order (λ (x : ℕ). length (payload_of ws st x)) rows g.held rows_once rows_are_held
      ∙ sum_same (size_of ws) (λ (x : ℕ). length (payload_of ws st x)) g.held (λ x h. payload_length ws st g.held x good.laid h)
      ∙ sym good.laid.used_is
