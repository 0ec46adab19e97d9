-- The rows of a message that is whole are marked: what `mark_whole` leaves, and that the loose rows are then the model's without the message. Assumes nothing.
use mathlib.Core.Path.{◌≡◌, refl, sym, ap, ◌∙◌, subst}
use mathlib.Core.Bool.{Bool, true, false, not, ◌&&◌}
use mathlib.Core.List.{List, [], ◌∷◌, map}
use Prim.Native.Nat.{ℕ, zero, suc, ◌+◌, ◌<◌}
use native.Mathlib.Omega.{arith}
use lib.Dec.{eqb, leb}
use lib.ListN.{length}
use borrow.Author.Tests.{eq-eqb, le-leb, lt-leb}
use Rattle.queue_words.specs.Flags.{pick, bit}
use Rattle.receiver_model.specs.Lists.{member, keep, count}
use Rattle.receiver_model.specs.Types.{Chunk}
use Rattle.receiver_model.specs.Assembly.{without_message}
use Rattle.receiver_model.proofs.Lists.{true≢false, Value, yes_is, no_is, value, count_nil, count_here, count_there, count_cons, equal, other, compare_same, keep_yes, keep_no, keep_map, From, member_from, member_to}
use Rattle.receiver_words.specs.Tables.{Buckets, Links, word_at}
use Rattle.receiver_words.specs.Fragments.{fragment_at}
use Rattle.receiver_words.specs.Index.{bucket_of, same_key_words, find_from, find_row}
use Rattle.receiver_words.specs.Chunks.{kind_of, chunk_of}
use Rattle.receiver_words.specs.declared.fragments.Fragment.{Fragment}
use Rattle.receiver_words.proofs.Laws.{word_put_same, word_put_other}
use Rattle.receiver_words.proofs.Frames.{frame_link}
use Rattle.receiver_words.proofs.Rows.{by_row, stands_here}
use Rattle.receiver_messages.specs.Keys.{following}
use Rattle.receiver_messages.specs.Walks.{is_whole, goes_on_words, part_after, row_after, reaches_last, marked, mark_whole}
use Rattle.linked_receiver.specs.Rows.{Unique, chunk_at, loose_rows, tail_rows}
use Rattle.linked_receiver.specs.Kept.{Kept}
use Rattle.linked_receiver.specs.Good.{Walk}
use Rattle.linked_receiver.proofs.Found.{bucket_in}
use Rattle.linked_receiver.proofs.Keeps.{kept_both, kept_frame, kept_fragment}
use Rattle.linked_receiver.proofs.Completes.{tsns_map}
use Rattle.linked_receiver.proofs.Paths.{reach_none, reach_next, tail_last, tail_next}

-- ------------------------------------------------------------------ what is found after a change of other words

module _ (ws ws' : List ℕ) (h h' m m' c : ℕ) (f : Kept ws ws' h h' m m' c) (k : ℕ) (hk : k < 3) (n : m ≡ 5 + k → ⊥) (n' : m' ≡ 5 + k → ⊥) (nc : c ≡ k → ⊥) where
  find_from_kept : (g : Fragment) (t p : ℕ) → find_from ws' k g p t ≡ find_from ws k g p t
  unfolding find_from
  find_from_kept g zero p = refl
  find_from_kept g (suc t) p =
      by_row p
      (λ l. rw (kept_fragment ws ws' h h' m m' c f p l, f.links p (5 + k) l (omega arith) n n', find_from_kept g t (word_at Links ws p (5 + k))))
      (λ l. rw (le-leb 4096 p l))

  pub find_kept : (g : Fragment) → find_row ws' k g ≡ find_row ws k g
  unfolding find_row
  find_kept g = ap (λ (p : ℕ). find_from ws' k g p 4096) (f.buckets (bucket_of k g) k (bucket_in k g) hk nc) ∙ find_from_kept g 4096 (word_at Buckets ws (bucket_of k g) k)

bit_below : (b : Bool) → bit b < 2
bit_below true = omega arith
bit_below false = omega arith

-- a change of no word of the first two indexes
module _ (ws ws' : List ℕ) (h h' m m' c : ℕ) (f : Kept ws ws' h h' m m' c) (b : Bool) (n : m ≡ 5 + bit b → ⊥) (n' : m' ≡ 5 + bit b → ⊥) (nc : c ≡ bit b → ⊥) where
  pub part_kept : (i : ℕ) → i < 4096 → part_after ws' b i ≡ part_after ws b i
  unfolding part_after
  part_kept i hi =
      ap (λ (g : Fragment). find_row ws' (bit b) (following g)) (kept_fragment ws ws' h h' m m' c f i hi)
      ∙ find_kept ws ws' h h' m m' c f (bit b) (let z = bit_below b in omega arith) n n' nc (following (fragment_at ws i))

  pub walk_kept : (i : ℕ) (xs : List ℕ) → ((x : ℕ) → 0 < count x (i ∷ xs) → x < 4096) → Walk ws b i xs → Walk ws' b i xs
  walk_kept i [] r w = ap (λ (g : Fragment). g.last) (kept_fragment ws ws' h h' m m' c f i (r i (stands_here i []))) ∙ w
  walk_kept i (x ∷ xs) r w = (
    ap (λ (g : Fragment). g.last) (kept_fragment ws ws' h h' m m' c f i (r i (stands_here i (x ∷ xs)))) ∙ w.0,
    (part_kept i (r i (stands_here i (x ∷ xs))) ∙ w.1.0, walk_kept x xs (λ y k. r y (let z = count_cons y i (x ∷ xs) in omega arith)) w.1.1),
  )

-- ------------------------------------------------------------------ mark_whole

-- of rows ms each is marked whole, and nothing else is changed
pub record Marked (ws ws' ms : List ℕ) : Type 0 where
  pub kept : Kept ws ws' 16 16 2 2 3
  pub on : (x : ℕ) → 0 < count x ms → is_whole ws' x ≡ true
  pub off : (x : ℕ) → x < 4096 → count x ms ≡ 0 → is_whole ws' x ≡ is_whole ws x

marked_kept : (ws : List ℕ) (i : ℕ) → i < 4096 → Kept ws (marked ws i) 16 16 2 2 3
marked_kept ws i hi = kept_frame ws (marked ws i) 16 16 2 2 3 (frame_link ws i 1 16 16 2 2 hi (omega arith))

marked_on : (ws : List ℕ) (i : ℕ) → length ws ≡ 83472 → i < 4096 → is_whole (marked ws i) i ≡ true
marked_on ws i long hi = eq-eqb _ _ (word_put_same Links ws i 2 1 long hi (omega arith))

marked_off : (ws : List ℕ) (i x : ℕ) → (i ≡ x → ⊥) → is_whole (marked ws i) x ≡ is_whole ws x
marked_off ws i x ne = ap (λ (v : ℕ). eqb v 1) (word_put_other Links ws i 2 1 x 2 ne (omega arith) (omega arith))

module _ (n : ℕ) (ws : List ℕ) (b : Bool) (i : ℕ) where
  mark_last : (fragment_at (marked ws i) i).last ≡ true → mark_whole (suc n) ws b i ≡ marked ws i
  unfolding mark_whole
  mark_last e = rw e

  mark_next : (x : ℕ) → (fragment_at (marked ws i) i).last ≡ false → part_after (marked ws i) b i ≡ x → x < 4096 → mark_whole (suc n) ws b i ≡ mark_whole n (marked ws i) b x
  unfolding mark_whole
  mark_next x e p l = rw (e, p, lt-leb _ _ l)

bit_not : (b : Bool) → 2 ≡ 5 + bit b → ⊥
bit_not b e = omega arith

three_not : (b : Bool) → 3 ≡ bit b → ⊥
three_not b e = let z = bit_below b in omega arith

pub mark_law : (n : ℕ) (ws : List ℕ) (b : Bool) (h : ℕ) (ts : List ℕ) → length ws ≡ 83472 → ((x : ℕ) → 0 < count x (h ∷ ts) → x < 4096) → Walk ws b h ts → length ts < n
    → Marked ws (mark_whole n ws b h) (h ∷ ts)
mark_law zero ws b h ts long r w l = absurd (omega arith)
mark_law (suc n) ws b h [] long r w l = subst (λ (vs : List ℕ). Marked ws vs (h ∷ [])) (sym (mark_last n ws b h e)) (record {
  kept = marked_kept ws h hh;
  on = λ x c. elim (compare_same h x) [
    | equal s ↦ subst (λ (y : ℕ). is_whole (marked ws h) y ≡ true) s (marked_on ws h long hh)
    | other d ↦ absurd (let a = count_there x h [] d in let z = count_nil x in omega arith)
  ];
  off = λ x hx c. marked_off ws h x (λ s. let a = count_here x h [] s in omega arith);
})
  where
    hh : h < 4096
    hh = r h (stands_here h [])

    e : (fragment_at (marked ws h) h).last ≡ true
    e = ap (λ (g : Fragment). g.last) (kept_fragment ws (marked ws h) 16 16 2 2 3 (marked_kept ws h hh) h hh) ∙ w
mark_law (suc n) ws b h (x ∷ xs) long r w l = subst (λ (vs : List ℕ). Marked ws vs (h ∷ x ∷ xs)) (sym (mark_next n ws b h x e p hx)) (go (mark_law n one b x xs (k.long ∙ long) r' w' (omega arith)))
  where
    hh : h < 4096
    hh = r h (stands_here h (x ∷ xs))

    r' : (y : ℕ) → 0 < count y (x ∷ xs) → y < 4096
    r' y c = r y (let z = count_cons y h (x ∷ xs) in omega arith)

    hx : x < 4096
    hx = r' x (stands_here x xs)

    one : List ℕ
    one = marked ws h

    k : Kept ws one 16 16 2 2 3
    k = marked_kept ws h hh

    e : (fragment_at one h).last ≡ false
    e = ap (λ (g : Fragment). g.last) (kept_fragment ws one 16 16 2 2 3 k h hh) ∙ w.0

    p : part_after one b h ≡ x
    p = part_kept ws one 16 16 2 2 3 k b (bit_not b) (bit_not b) (three_not b) h hh ∙ w.1.0

    w' : Walk one b x xs
    w' = walk_kept ws one 16 16 2 2 3 k b (bit_not b) (bit_not b) (three_not b) x xs r' w.1.1

    go : Marked one (mark_whole n one b x) (x ∷ xs) → Marked ws (mark_whole n one b x) (h ∷ x ∷ xs)
    go t = record {
      kept = kept_both ws one (mark_whole n one b x) 16 16 2 2 3 k t.kept;
      on = λ y c. elim (compare_same (count y (x ∷ xs)) 0) [
        | equal z ↦ elim (compare_same h y) [
          | equal s ↦ subst (λ (v : ℕ). is_whole (mark_whole n one b x) v ≡ true) s (t.off h hh (ap (λ (v : ℕ). count v (x ∷ xs)) s ∙ z) ∙ marked_on ws h long hh)
          | other d ↦ absurd (let a = count_there y h (x ∷ xs) d in omega arith)
        ]
        | other d ↦ t.on y (omega arith)
      ];
      off = λ y hy c. let a = count_cons y h (x ∷ xs) in t.off y hy (omega arith) ∙ marked_off ws h y (λ s. let u = count_here y h (x ∷ xs) s in omega arith);
    }

-- ------------------------------------------------------------------ the rows of a message that is found

-- the next row of a loose row is the next of its message
pub after_part : (ws : List ℕ) (b : Bool) (i : ℕ) → row_after ws b i < 4096 → part_after ws b i ≡ row_after ws b i
unfolding row_after part_after
after_part ws b i l = go (leb 4096 j) (is_whole ws j) (goes_on_words b (fragment_at ws i) (fragment_at ws j)) l
  where
    j : ℕ
    j = find_row ws (bit b) (following (fragment_at ws i))

    go : (x y z : Bool) → pick x 4096 (pick y 4096 (pick z j 4096)) < 4096 → j ≡ pick x 4096 (pick y 4096 (pick z j 4096))
    go true y z k = absurd (omega arith)
    go false true z k = absurd (omega arith)
    go false false true k = refl
    go false false false k = absurd (omega arith)

pub reach_walk : (ws : List ℕ) (b : Bool) (n h : ℕ) → reaches_last n ws b h ≡ true → Walk ws b h (tail_rows n ws b h)
unfolding reaches_last
reach_walk ws b zero h e = absurd (true≢false e refl)
reach_walk ws b (suc n) h e = go (value (fragment_at ws h).last) (λ f. reach_walk ws b n (row_after ws b h) f)
  where
    go : Value (fragment_at ws h).last → (reaches_last n ws b (row_after ws b h) ≡ true → Walk ws b (row_after ws b h) (tail_rows n ws b (row_after ws b h))) → Walk ws b h (tail_rows (suc n) ws b h)
    go (yes_is f) ih = subst (Walk ws b h) (sym (tail_last ws b n h f)) f
    go (no_is f) ih =
        by_row (row_after ws b h)
        (λ l. subst (Walk ws b h) (sym (tail_next ws b n h f l)) (f, (after_part ws b h l, ih (sym (reach_next ws b n h f l) ∙ e))))
        (λ l. absurd (true≢false e (reach_none ws b n h f l)))

-- ------------------------------------------------------------------ the loose rows without it

-- two tests, one after the other
keep_twice : (f t u : ℕ → Bool) (xs : List ℕ) → ((x : ℕ) → 0 < count x xs → f x ≡ t x && u x) → keep f xs ≡ keep u (keep t xs)
unfolding keep
keep_twice f t u [] h = refl
keep_twice f t u (x ∷ xs) h = go (t x) (u x) refl refl (keep_twice f t u xs (λ y c. h y (let z = count_cons y x xs in omega arith)))
  where
    here : f x ≡ t x && u x
    here = h x (stands_here x xs)

    go : (a c : Bool) → t x ≡ a → u x ≡ c → keep f xs ≡ keep u (keep t xs) → keep f (x ∷ xs) ≡ keep u (keep t (x ∷ xs))
    go true true e g ih = keep_yes f x xs (rw (e, g) at here) ∙ ap (◌∷◌ x) ih ∙ sym (keep_yes u x (keep t xs) g) ∙ ap (keep u) (sym (keep_yes t x xs e))
    go true false e g ih = keep_no f x xs (rw (e, g) at here) ∙ ih ∙ sym (keep_no u x (keep t xs) g) ∙ ap (keep u) (sym (keep_yes t x xs e))
    go false c e g ih = keep_no f x xs (rw e at here) ∙ ih ∙ ap (keep u) (sym (keep_no t x xs e))

module _ (ws : List ℕ) (b : Bool) (payload : ℕ → List ℕ) (held : List ℕ) (rows : (x : ℕ) → 0 < count x held → x < 4096) (once : Unique ws 0 held) (ws' : List ℕ) (h : ℕ) (ts : List ℕ)
    (within : (x : ℕ) → 0 < count x (h ∷ ts) → 0 < count x held) (m : Marked ws ws' (h ∷ ts)) where
  abbrev chunk : ℕ → Chunk
  chunk x = chunk_at ws b payload x

  abbrev tsn : ℕ → ℕ
  tsn x = (fragment_at ws x).tsn

  abbrev out : ℕ → Bool
  out x = not (member (tsn x) (map tsn (h ∷ ts)))

  same_row : (x y : ℕ) → 0 < count x held → 0 < count y held → tsn x ≡ tsn y → x ≡ y
  unfolding same_key_words
  same_row x y c d e = once (fragment_at ws y) x y c d (eq-eqb (tsn x) (tsn y) e) (eq-eqb (tsn y) (tsn y) refl)

  test : (x : ℕ) → 0 < count x held → not (is_whole ws' x) ≡ not (is_whole ws x) && out x
  test x c = elim (compare_same (count x (h ∷ ts)) 0) [
    | equal z ↦ off z (value (member (tsn x) (map tsn (h ∷ ts))))
    | other d ↦ on (is_whole ws x) (m.on x (omega arith)) (member_to tsn x (h ∷ ts) (omega arith))
  ]
    where
      on : (a : Bool) → is_whole ws' x ≡ true → member (tsn x) (map tsn (h ∷ ts)) ≡ true → not (is_whole ws' x) ≡ not a && out x
      on true e f = ap not e
      on false e f = ap not e ∙ sym (ap not f)

      and_true : (a c : Bool) → c ≡ true → a ≡ a && c
      and_true true c e = sym e
      and_true false c e = refl

      off : count x (h ∷ ts) ≡ 0 → Value (member (tsn x) (map tsn (h ∷ ts))) → not (is_whole ws' x) ≡ not (is_whole ws x) && out x
      off z (yes_is f) = absurd (found (member_from tsn (tsn x) (h ∷ ts) f))
        where
          found : From tsn (tsn x) (h ∷ ts) → ⊥
          found r =
              let w = r.within in
              let s : r.element ≡ x = same_row r.element x (within r.element r.within) c r.image in
              let a = ap (λ (y : ℕ). count y (h ∷ ts)) s in
              omega arith
      off z (no_is f) = ap not (m.off x (rows x c) z) ∙ and_true (not (is_whole ws x)) (out x) (ap not f)

  -- the loose rows are those that are not of the message
  pub loose_marked : map chunk (loose_rows ws' held) ≡ without_message (record { head = chunk h; tail = map chunk ts }) (map chunk (loose_rows ws held))
  unfolding without_message
  loose_marked =
      ap (map chunk) (keep_twice (λ (x : ℕ). not (is_whole ws' x)) (λ (x : ℕ). not (is_whole ws x)) out held test)
      ∙ sym (keep_map chunk (λ (c : Chunk). not (member c.tsn (map tsn (h ∷ ts)))) (loose_rows ws held))
      ∙ ap (λ (is : List ℕ). keep (λ (c : Chunk). not (member c.tsn is)) (map chunk (loose_rows ws held))) (sym (tsns_map chunk (h ∷ ts)))

  pub chunk_marked : (x : ℕ) → x < 4096 → chunk_at ws' b payload x ≡ chunk x
  chunk_marked x hx = ap (λ (f : Fragment). chunk_of (kind_of b) f (payload x)) (kept_fragment ws ws' 16 16 2 2 3 m.kept x hx)
