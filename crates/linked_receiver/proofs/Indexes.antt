-- A row put into an index, at its front or at its end, and one taken out of it: the index's rows change by that row. Assumes nothing.
use mathlib.Core.Path.{◌≡◌, refl, sym, ap, ◌∙◌, subst}
use mathlib.Core.Logic.{◌⊎◌, inl, inr, ⊎_elim}
use mathlib.Core.Bool.{Bool, not}
use mathlib.Core.List.{List, [], ◌∷◌, ◌++◌, append-nil}
use Prim.Native.Nat.{ℕ, zero, suc, ◌+◌, ◌≤◌, ◌<◌}
use native.Mathlib.Omega.{arith}
use borrow.Author.Tests.{le-leb, lt-leb, eq-eqb, ne_eqb}
use lib.Dec.{eqb}
use lib.ListN.{length}
use Rattle.receiver_model.specs.Lists.{keep, count}
use Rattle.receiver_model.proofs.Lists.{count_there, count_cons, count_append, count_other, Same, equal, other, compare_same, keep_yes, keep_no, count_keep_yes, count_keep_no, length_keep}
use Rattle.receiver_words.specs.Tables.{Buckets, Links, word_at, put_word}
use Rattle.receiver_words.specs.Fragments.{fragment_at}
use Rattle.receiver_words.specs.Index.{bucket_of, before_from, index_row, unindex_row, index_last}
use Rattle.receiver_words.specs.Link.{Linked}
use Rattle.receiver_words.specs.Ages.{without}
use Rattle.receiver_words.specs.declared.fragments.Fragment.{Fragment}
use Rattle.receiver_words.proofs.Laws.{word_put_other, word_put_table}
use Rattle.receiver_words.proofs.Rows.{stands_here, not_among, without_absent}
use Rattle.receiver_words.proofs.Linked.{next_by, linked_frame, index_linked, index_linked_other}
use Rattle.receiver_words.proofs.Messages.{linked_rows}
use Rattle.receiver_words.proofs.Unindex.{follow_other, follow_head_other, unindex_linked, index_last_linked}
use Rattle.linked_receiver.specs.Rows.{hits, Indexed}
use Rattle.linked_receiver.specs.Kept.{Kept}
use Rattle.linked_receiver.proofs.Found.{bucket_in}
use Rattle.linked_receiver.proofs.Lists.{keep_same, keep_append, keep_without, count_kept}
use Rattle.linked_receiver.proofs.Keeps.{kept_fragment, index_kept, unindex_kept, last_kept}

-- ------------------------------------------------------------------ the rows of an index

-- they are rows
pub indexed_rows : (ws : List ℕ) (k : ℕ) (xs : List ℕ) → Indexed ws k xs → (x : ℕ) → 0 < count x xs → x < 4096
indexed_rows ws k xs ix x h =
    let b = bucket_of k (fragment_at ws x) in
    let c = count_keep_yes x (hits ws k b) xs (eq-eqb b b refl) in
    linked_rows (next_by ws k) (word_at Buckets ws b k) (keep (hits ws k b) xs) (ix b (bucket_in k (fragment_at ws x))) x (omega arith)

-- rows with the same fragments are in the same chains
hits_same : (ws ws' : List ℕ) (k b : ℕ) (xs : List ℕ) → ((x : ℕ) → 0 < count x xs → fragment_at ws' x ≡ fragment_at ws x) → keep (hits ws k b) xs ≡ keep (hits ws' k b) xs
hits_same ws ws' k b xs f = keep_same (hits ws k b) (hits ws' k b) xs (λ x h. ap (λ (g : Fragment). eqb (bucket_of k g) b) (sym (f x h)))

-- what leaves the buckets, the links and the fragments of the rows leaves the index
pub indexed_frame : (ws ws' : List ℕ) (k : ℕ) (xs : List ℕ) → ((b : ℕ) → b < 4096 → word_at Buckets ws' b k ≡ word_at Buckets ws b k)
    → ((x : ℕ) → 0 < count x xs → x < 4096 → next_by ws' k x ≡ next_by ws k x) → ((x : ℕ) → 0 < count x xs → x < 4096 → fragment_at ws' x ≡ fragment_at ws x) → Indexed ws k xs → Indexed ws' k xs
indexed_frame ws ws' k xs hb hl hf ix b lb =
    subst (λ (zs : List ℕ). Linked (next_by ws' k) (word_at Buckets ws' b k) zs) (hits_same ws ws' k b xs (λ x h. hf x h (indexed_rows ws k xs ix x h)))
    (subst (λ (p : ℕ). Linked (next_by ws' k) p (keep (hits ws k b) xs)) (sym (hb b lb))
    (linked_frame (next_by ws k) (next_by ws' k) (word_at Buckets ws b k) (keep (hits ws k b) xs)
    (λ x h r. hl x (let c = count_kept x (hits ws k b) xs in omega arith) r)
    (ix b lb)))

-- a change of other words
pub indexed_kept : (ws ws' : List ℕ) (h h' m m' b k : ℕ) (xs : List ℕ) → Kept ws ws' h h' m m' b → k < 3 → (m ≡ 5 + k → ⊥) → (m' ≡ 5 + k → ⊥) → (b ≡ k → ⊥) → Indexed ws k xs → Indexed ws' k xs
indexed_kept ws ws' h h' m m' b k xs f hk n n' nb ix =
    indexed_frame ws ws' k xs
    (λ c hc. f.buckets c k hc hk nb)
    (λ x c hx. f.links x (5 + k) hx (omega arith) n n')
    (λ x c hx. kept_fragment ws ws' h h' m m' b f x hx)
    ix

-- ------------------------------------------------------------------ index_row

module _ (ws : List ℕ) (k i : ℕ) (xs : List ℕ) (long : length ws ≡ 83472) (hk : k < 3) (hi : i < 4096) (ix : Indexed ws k xs) where
  abbrev bucket : ℕ
  bucket = bucket_of k (fragment_at ws i)

  in_bucket : bucket < 4096
  in_bucket = bucket_in k (fragment_at ws i)

  -- row i is the first in the index
  pub index_indexed : count i xs ≡ 0 → Indexed (index_row ws k (bucket_of k (fragment_at ws i)) i) k (i ∷ xs)
  index_indexed new b lb = elim (compare_same bucket b) [
    | equal s ↦ at b s
    | other d ↦ subst (λ (zs : List ℕ). Linked (next_by ws' k) (word_at Buckets ws' b k) zs) (sym (keep_no (hits ws k b) i xs (ne_eqb bucket b d)) ∙ same b)
        (index_linked_other ws k bucket i b (keep (hits ws k b) xs) hk in_bucket hi lb d (absent b) (ix b lb))
  ]
    where
      ws' : List ℕ
      ws' = index_row ws k bucket i

      same : (c : ℕ) → keep (hits ws k c) (i ∷ xs) ≡ keep (hits ws' k c) (i ∷ xs)
      same c = hits_same ws ws' k c (i ∷ xs) (λ x h. kept_fragment ws ws' 16 16 (5 + k) (5 + k) k (index_kept ws k bucket i hk in_bucket hi) x (row x h))
        where
          row : (x : ℕ) → 0 < count x (i ∷ xs) → x < 4096
          row x h = elim (compare_same i x) [
            | equal e ↦ subst (λ (y : ℕ). y < 4096) e hi
            | other n ↦ (let a = count_there x i xs n in indexed_rows ws k xs ix x (omega arith))
          ]

      absent : (c : ℕ) → count i (keep (hits ws k c) xs) ≡ 0
      absent c = let a = count_kept i (hits ws k c) xs in omega arith

      at : (c : ℕ) → bucket ≡ c → Linked (next_by ws' k) (word_at Buckets ws' c k) (keep (hits ws' k c) (i ∷ xs))
      at c s =
          subst (λ (d : ℕ). Linked (next_by ws' k) (word_at Buckets ws' d k) (keep (hits ws' k d) (i ∷ xs))) s
          (subst (λ (zs : List ℕ). Linked (next_by ws' k) (word_at Buckets ws' bucket k) zs) (sym (keep_yes (hits ws k bucket) i xs (eq-eqb bucket bucket refl)) ∙ same bucket)
          (index_linked ws k bucket i (keep (hits ws k bucket) xs) long hk in_bucket hi (absent bucket) (ix bucket in_bucket)))

-- ------------------------------------------------------------------ rows of one chain and of others

-- the row before another is none, or one of the chain
before_in : (ws : List ℕ) (k i p n : ℕ) (xs : List ℕ) → Linked (next_by ws k) p xs → (before_from ws k i p n ≡ 4096) ⊎ (0 < count (before_from ws k i p n) xs)
unfolding before_from
before_in ws k i p zero xs c = inl refl
before_in ws k i p (suc n) [] c = inl (rw (le-leb 4096 p (omega (arith, c))))
before_in ws k i p (suc n) (x ∷ xs) (e, b, c) =
    subst (λ (q : ℕ). (before_from ws k i q (suc n) ≡ 4096) ⊎ (0 < count (before_from ws k i q (suc n)) (x ∷ xs))) (sym e)
    (go (compare_same (next_by ws k x) i) (before_in ws k i (next_by ws k x) n xs c))
  where
    Found : ℕ → List ℕ → Type 0
    Found r ys = (r ≡ 4096) ⊎ (0 < count r ys)

    go : Same (next_by ws k x) i → Found (before_from ws k i (next_by ws k x) n) xs → Found (before_from ws k i x (suc n)) (x ∷ xs)
    go (equal s) ih = rw (lt-leb 4096 x b, eq-eqb _ _ s) (inr (stands_here x xs))
    go (other d) ih = rw (lt-leb 4096 x b, ne_eqb _ _ d) (⊎_elim (λ z. inl z) (λ h. inr (let m = count_cons (before_from ws k i (next_by ws k x) n) x xs in omega arith)) ih)

-- a row of one chain is in no other
one_chain : (ws : List ℕ) (k b d x : ℕ) (xs : List ℕ) → (b ≡ d → ⊥) → 0 < count x (keep (hits ws k b) xs) → count x (keep (hits ws k d) xs) ≡ 0
one_chain ws k b d x xs ne h = elim (compare_same (bucket_of k (fragment_at ws x)) b) [
  | equal s ↦ count_keep_no x (hits ws k d) xs (ne_eqb _ d (λ e. ne (sym s ∙ e)))
  | other n ↦ absurd (let z = count_keep_no x (hits ws k b) xs (ne_eqb _ b n) in omega arith)
]

keep_nil : (f : ℕ → Bool) → keep f [] ≡ []
unfolding keep
keep_nil f = refl

module _ (ws : List ℕ) (k i : ℕ) (xs : List ℕ) (long : length ws ≡ 83472) (hk : k < 3) (hi : i < 4096) (ix : Indexed ws k xs) (once : (y : ℕ) → count y xs ≤ 1) (short : length xs ≤ 4096) where
  abbrev its : ℕ
  its = bucket_of k (fragment_at ws i)

  hb : its < 4096
  hb = bucket_in k (fragment_at ws i)

  abbrev chain : ℕ → List ℕ
  chain c = keep (hits ws k c) xs

  chain_once : (c y : ℕ) → count y (chain c) ≤ 1
  chain_once c y = let a = count_kept y (hits ws k c) xs in let b = once y in omega arith

  chain_short : (c : ℕ) → length (chain c) ≤ 4096
  chain_short c = let a = length_keep (hits ws k c) xs in omega arith

  -- no row before another is outside the index
  not_before : (n x : ℕ) → x < 4096 → count x (chain its) ≡ 0 → before_from ws k n (word_at Buckets ws its k) 4096 ≡ x → ⊥
  not_before n x hx z e =
      ⊎_elim (λ a. omega (arith, a, e)) (λ a. not_among x (before_from ws k n (word_at Buckets ws its k) 4096) (chain its) z a (sym e))
      (before_in ws k n (word_at Buckets ws its k) 4096 (chain its) (ix its hb))

  -- ---------------------------------------------------------------- unindex_row

  abbrev out : List ℕ
  out = unindex_row ws k its i

  -- the links of rows of no chain, and of other chains
  unindex_next : (x : ℕ) → x < 4096 → count x (chain its) ≡ 0 → next_by out k x ≡ next_by ws k x
  unfolding unindex_row
  unindex_next x hx z = follow_other ws k its (before_from ws k i (word_at Buckets ws its k) 4096) (next_by ws k i) x hx hk hb (λ e. not_before i x hx z e)

  unindex_head : (b : ℕ) → b < 4096 → (its ≡ b → ⊥) → word_at Buckets out b k ≡ word_at Buckets ws b k
  unfolding unindex_row
  unindex_head b lb d = follow_head_other ws k its (before_from ws k i (word_at Buckets ws its k) 4096) (next_by ws k i) b hk lb d

  pub unindex_other : (x : ℕ) → x < 4096 → count x xs ≡ 0 → next_by (unindex_row ws k (bucket_of k (fragment_at ws i)) i) k x ≡ next_by ws k x
  unindex_other x hx z = unindex_next x hx (let a = count_kept x (hits ws k its) xs in omega arith)

  -- row i is in the index no more
  pub unindex_indexed : 0 < count i xs → Indexed (unindex_row ws k (bucket_of k (fragment_at ws i)) i) k (without i xs)
  unindex_indexed h b lb = elim (compare_same its b) [
    | equal s ↦ subst (λ (d : ℕ). Linked (next_by out k) (word_at Buckets out d k) (keep (hits out k d) (without i xs))) s
        (subst (λ (zs : List ℕ). Linked (next_by out k) (word_at Buckets out its k) zs) (sym (keep_without (hits ws k its) i xs) ∙ same its)
        (unindex_linked ws k its i (chain its) long hk hb hi (ix its hb) (chain_once its) (chain_short its) (let c = count_keep_yes i (hits ws k its) xs (eq-eqb its its refl) in omega arith)))
    | other d ↦ subst (λ (zs : List ℕ). Linked (next_by out k) (word_at Buckets out b k) zs)
        (sym (without_absent i (chain b) (count_keep_no i (hits ws k b) xs (ne_eqb its b d))) ∙ sym (keep_without (hits ws k b) i xs) ∙ same b)
        (subst (λ (q : ℕ). Linked (next_by out k) q (chain b)) (sym (unindex_head b lb d))
        (linked_frame (next_by ws k) (next_by out k) (word_at Buckets ws b k) (chain b) (λ x c hx. unindex_next x hx (one_chain ws k b its x xs (λ e. d (sym e)) c)) (ix b lb)))
  ]
    where
      same : (c : ℕ) → keep (hits ws k c) (without i xs) ≡ keep (hits out k c) (without i xs)
      same c =
          hits_same ws out k c (without i xs)
          (λ x a. kept_fragment ws out 16 16 (5 + k) (5 + k) k (unindex_kept ws k its i hk hb) x (indexed_rows ws k xs ix x (let m = count_kept x (λ (y : ℕ). not (eqb y i)) xs in omega arith)))

  -- ---------------------------------------------------------------- index_last

  abbrev more : List ℕ
  more = index_last ws k its i

  last_next : (x : ℕ) → x < 4096 → (i ≡ x → ⊥) → count x (chain its) ≡ 0 → next_by more k x ≡ next_by ws k x
  unfolding index_last
  last_next x hx ne z =
      follow_other (put_word Links ws i (5 + k) 4096) k its (before_from ws k 4096 (word_at Buckets ws its k) 4096) i x hx hk hb (λ e. not_before 4096 x hx z e)
      ∙ word_put_other Links ws i (5 + k) 4096 x (5 + k) ne (omega arith) (omega arith)

  last_head : (b : ℕ) → b < 4096 → (its ≡ b → ⊥) → word_at Buckets more b k ≡ word_at Buckets ws b k
  unfolding index_last
  last_head b lb d =
      follow_head_other (put_word Links ws i (5 + k) 4096) k its (before_from ws k 4096 (word_at Buckets ws its k) 4096) i b hk lb d
      ∙ word_put_table Links Buckets ws i (5 + k) 4096 b k refl hi lb (omega arith) hk

  pub last_other : (x : ℕ) → x < 4096 → (i ≡ x → ⊥) → count x xs ≡ 0 → next_by (index_last ws k (bucket_of k (fragment_at ws i)) i) k x ≡ next_by ws k x
  last_other x hx ne z = last_next x hx ne (let a = count_kept x (hits ws k its) xs in omega arith)

  -- row i is the last in the index
  pub last_indexed : count i xs ≡ 0 → Indexed (index_last ws k (bucket_of k (fragment_at ws i)) i) k (xs ++ (i ∷ []))
  last_indexed new b lb = elim (compare_same its b) [
    | equal s ↦ subst (λ (d : ℕ). Linked (next_by more k) (word_at Buckets more d k) (keep (hits more k d) (xs ++ (i ∷ [])))) s
        (subst (λ (zs : List ℕ). Linked (next_by more k) (word_at Buckets more its k) zs) (ap (λ (ys : List ℕ). chain its ++ ys) (sym alone) ∙ sym (keep_append (hits ws k its) xs (i ∷ [])) ∙ same its)
        (index_last_linked ws k its i long hk hb hi (chain its) (ix its hb) (chain_once its) (chain_short its) (absent its)))
    | other d ↦ subst (λ (zs : List ℕ). Linked (next_by more k) (word_at Buckets more b k) zs)
        (sym (append-nil (chain b)) ∙ ap (λ (ys : List ℕ). chain b ++ ys) (sym (keep_no (hits ws k b) i [] (ne_eqb its b d) ∙ keep_nil (hits ws k b))) ∙ sym (keep_append (hits ws k b) xs (i ∷ [])) ∙ same b)
        (subst (λ (q : ℕ). Linked (next_by more k) q (chain b)) (sym (last_head b lb d))
        (linked_frame (next_by ws k) (next_by more k) (word_at Buckets ws b k) (chain b)
        (λ x c hx. last_next x hx (not_among i x (chain b) (absent b) c) (one_chain ws k b its x xs (λ e. d (sym e)) c))
        (ix b lb)))
  ]
    where
      absent : (c : ℕ) → count i (chain c) ≡ 0
      absent c = let a = count_kept i (hits ws k c) xs in omega arith

      alone : keep (hits ws k its) (i ∷ []) ≡ i ∷ []
      alone = keep_yes (hits ws k its) i [] (eq-eqb its its refl) ∙ ap (◌∷◌ i) (keep_nil (hits ws k its))

      row : (x : ℕ) → 0 < count x (xs ++ (i ∷ [])) → x < 4096
      row x h = elim (compare_same i x) [
        | equal e ↦ subst (λ (y : ℕ). y < 4096) e hi
        | other n ↦ (let a = count_append x xs (i ∷ []) in let c = count_other x i n in indexed_rows ws k xs ix x (omega arith))
      ]

      same : (c : ℕ) → keep (hits ws k c) (xs ++ (i ∷ [])) ≡ keep (hits more k c) (xs ++ (i ∷ []))
      same c = hits_same ws more k c (xs ++ (i ∷ [])) (λ x a. kept_fragment ws more 16 16 (5 + k) (5 + k) k (last_kept ws k its i hk hb hi) x (row x a))
