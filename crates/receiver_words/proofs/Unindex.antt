-- The chains of the indexes after a row is taken out, and after one is put at the end. Assumes nothing.
use mathlib.Core.Path.{◌≡◌, refl, sym, ap, ◌∙◌, subst}
use mathlib.Core.List.{List, [], ◌∷◌, ◌++◌}
use Prim.Native.Nat.{ℕ, zero, suc, ◌+◌, ◌≤◌, ◌<◌}
use native.Mathlib.Omega.{arith}
use borrow.Author.Tests.{le-leb, lt-leb, eq-eqb, ne_eqb}
use lib.ListN.{length}
use Rattle.receiver_model.specs.Lists.{count}
use Rattle.receiver_model.proofs.Lists.{count_nil, count_here, count_there, count_cons, equal, other, compare_same}
use Rattle.receiver_words.specs.Tables.{Buckets, Links, word_at, put_word}
use Rattle.receiver_words.specs.Index.{before_from, follow, unindex_row, index_last}
use Rattle.receiver_words.specs.Link.{Linked}
use Rattle.receiver_words.specs.Ages.{without, last_row}
use Rattle.receiver_words.proofs.Laws.{whole_put_word, word_put_same, word_put_other, word_put_table}
use Rattle.receiver_words.proofs.Linked.{next_by, linked_frame}
use Rattle.receiver_words.proofs.Rows.{by_row, stands_here, head_once, tail_once, unlike_head, not_among, without_here, without_there, without_absent}
use Rattle.receiver_words.proofs.Messages.{last_in, linked_rows, linked_snoc}

-- ------------------------------------------------------------------ what is read after a link of a chain, or its first row, is stored

module _ (ws : List ℕ) (k b p v : ℕ) where
  follow_row : p < 4096 → follow ws k b p v ≡ put_word Links ws p (5 + k) v
  unfolding follow
  follow_row h = rw (lt-leb 4096 p h)

  follow_none : 4096 ≤ p → follow ws k b p v ≡ put_word Buckets ws b k v
  unfolding follow
  follow_none h = rw (le-leb 4096 p h)

  pub follow_long : length (follow ws k b p v) ≡ length ws
  follow_long = by_row p (λ h. ap length (follow_row h) ∙ whole_put_word Links ws p (5 + k) v) (λ h. ap length (follow_none h) ∙ whole_put_word Buckets ws b k v)

  pub follow_same : length ws ≡ 83472 → p < 4096 → k < 3 → next_by (follow ws k b p v) k p ≡ v
  follow_same l h hk = ap (λ (r : List ℕ). next_by r k p) (follow_row h) ∙ word_put_same Links ws p (5 + k) v l h (omega arith)

  pub follow_other : (x : ℕ) → x < 4096 → k < 3 → b < 4096 → (p ≡ x → ⊥) → next_by (follow ws k b p v) k x ≡ next_by ws k x
  follow_other x hx hk hb ne =
      by_row p
      (λ h. ap (λ (r : List ℕ). next_by r k x) (follow_row h) ∙ word_put_other Links ws p (5 + k) v x (5 + k) ne (omega arith) (omega arith))
      (λ h. ap (λ (r : List ℕ). next_by r k x) (follow_none h) ∙ word_put_table Buckets Links ws b k v x (5 + k) refl hb hx hk (omega arith))

  pub follow_head : length ws ≡ 83472 → 4096 ≤ p → k < 3 → b < 4096 → word_at Buckets (follow ws k b p v) b k ≡ v
  follow_head l h hk hb = ap (λ (r : List ℕ). word_at Buckets r b k) (follow_none h) ∙ word_put_same Buckets ws b k v l hb hk

  pub follow_head_row : (c : ℕ) → p < 4096 → k < 3 → c < 4096 → word_at Buckets (follow ws k b p v) c k ≡ word_at Buckets ws c k
  follow_head_row c h hk hc = ap (λ (r : List ℕ). word_at Buckets r c k) (follow_row h) ∙ word_put_table Links Buckets ws p (5 + k) v c k refl h hc (omega arith) hk

  pub follow_head_other : (c : ℕ) → k < 3 → c < 4096 → (b ≡ c → ⊥) → word_at Buckets (follow ws k b p v) c k ≡ word_at Buckets ws c k
  follow_head_other c hk hc ne =
      by_row p
      (λ h. follow_head_row c h hk hc)
      (λ h. ap (λ (r : List ℕ). word_at Buckets r c k) (follow_none h) ∙ word_put_other Buckets ws b k v c k ne hk hk)

-- ------------------------------------------------------------------ the row before another

module _ (ws : List ℕ) (k i : ℕ) where
  step : (p n : ℕ) → p < 4096 → (next_by ws k p ≡ i → ⊥) → before_from ws k i p (suc n) ≡ before_from ws k i (next_by ws k p) n
  unfolding before_from
  step p n b ne = rw (lt-leb 4096 p b, ne_eqb (next_by ws k p) i ne)

  found : (p n : ℕ) → p < 4096 → next_by ws k p ≡ i → before_from ws k i p (suc n) ≡ p
  unfolding before_from
  found p n b e = rw (lt-leb 4096 p b, eq-eqb (next_by ws k p) i e)

  stops : (p n : ℕ) → 4096 ≤ p → before_from ws k i p n ≡ 4096
  unfolding before_from
  stops p zero b = refl
  stops p (suc n) b = rw (le-leb 4096 p b)

  ends : (p : ℕ) → before_from ws k i p zero ≡ 4096
  unfolding before_from
  ends p = refl

  -- the first row of a chain that has row i nowhere behind it: no row comes before i
  pub before_none : (p n : ℕ) (x : ℕ) (xs : List ℕ) → i < 4096 → Linked (next_by ws k) p (x ∷ xs) → count i xs ≡ 0 → before_from ws k i p n ≡ 4096
  before_none p zero x xs hi c z = ends p
  before_none p (suc n) x [] hi (e, b, c) z = step p n (omega (arith, e)) (λ s. omega (arith, c, s, ap (next_by ws k) e)) ∙ stops (next_by ws k p) n (omega (arith, c, ap (next_by ws k) e))
  before_none p (suc n) x (y ∷ ys) hi (e, b, c) z =
      step p n (omega (arith, e)) (λ s. not_among i y (y ∷ ys) z (stands_here y ys) (sym s ∙ ap (next_by ws k) e ∙ c.0))
      ∙ ap (λ (q : ℕ). before_from ws k i q n) (ap (next_by ws k) e)
      ∙ before_none (next_by ws k x) n y ys hi c (let m = count_cons i y ys in omega arith)

  -- a row of the chain, followed by row i
  pub record Before (r : ℕ) (xs : List ℕ) : Type 0 where
    pub among : 0 < count r xs
    pub leads : next_by ws k r ≡ i

  pub before_some : (p n x : ℕ) (xs : List ℕ) → Linked (next_by ws k) p (x ∷ xs) → 0 < count i xs → length (x ∷ xs) ≤ n → Before (before_from ws k i p n) (x ∷ xs)
  before_some p zero x xs c h l = absurd (omega arith)
  before_some p (suc n) x [] c h l = absurd (let z = count_nil i in omega arith)
  before_some p (suc n) x (y ∷ ys) (e, b, c) h l = elim (compare_same (next_by ws k x) i) [
    | equal s ↦ (let r : before_from ws k i p (suc n) ≡ x = ap (λ (q : ℕ). before_from ws k i q (suc n)) e ∙ found x n b s in
        subst (λ (q : ℕ). Before q (x ∷ y ∷ ys)) (sym r) (record { among = stands_here x (y ∷ ys); leads = s }))
    | other ne ↦ (let r : before_from ws k i p (suc n) ≡ before_from ws k i (next_by ws k x) n = ap (λ (q : ℕ). before_from ws k i q (suc n)) e ∙ step x n b ne in
        let a = count_there i y ys (λ s. ne (c.0 ∙ s)) in
        let t = before_some (next_by ws k x) n y ys c (omega arith) (omega arith) in
        subst (λ (q : ℕ). Before q (x ∷ y ∷ ys)) (sym r) (record { among = let m = count_cons (before_from ws k i (next_by ws k x) n) x (y ∷ ys) in let w = t.among in omega arith; leads = t.leads }))
  ]

-- ------------------------------------------------------------------ a row taken out of a chain: what followed it follows the row before it

-- the row that follows one of the rows stands behind the first
behind : (next : ℕ → ℕ) (i r p y : ℕ) (ys : List ℕ) → Linked next p (y ∷ ys) → i < 4096 → 0 < count r (y ∷ ys) → next r ≡ i → 0 < count i ys
behind next i r p y [] (e, b, c) hi hr er = elim (compare_same y r) [
  | equal s ↦ absurd (omega (arith, c, er, ap next s))
  | other ne ↦ absurd (let a = count_there r y [] ne in let z = count_nil r in omega arith)
]
behind next i r p y (z ∷ zs) (e, b, c) hi hr er = elim (compare_same y r) [
  | equal s ↦ (let a = count_here i z zs (sym c.0 ∙ ap next s ∙ er) in omega arith)
  | other ne ↦ (let a = count_there r y (z ∷ zs) ne in let ih = behind next i r (next y) z zs c hi (omega arith) er in let m = count_cons i z zs in omega arith)
]

-- it is not the first: r is the row before it
cut_behind : (next next' : ℕ → ℕ) (i r p x : ℕ) (xs : List ℕ) → i < 4096 → Linked next p (x ∷ xs) → ((y : ℕ) → count y (x ∷ xs) ≤ 1) → 0 < count i xs → 0 < count r (x ∷ xs) → next r ≡ i
    → next' r ≡ next i → ((y : ℕ) → 0 < count y (x ∷ xs) → y < 4096 → (r ≡ y → ⊥) → next' y ≡ next y) → Linked next' p (x ∷ without i xs)
cut_behind next next' i r p x [] hi c once h hr er en f = absurd (let z = count_nil i in omega arith)
cut_behind next next' i r p x (y ∷ ys) hi (e, b, c) once h hr er en f = elim (compare_same x r) [
  | equal s ↦ (let ei : y ≡ i = sym c.0 ∙ ap next s ∙ er in
      let z : count i ys ≡ 0 = ap (λ (t : ℕ). count t ys) (sym ei) ∙ head_once y ys (tail_once x (y ∷ ys) once) in
      subst (λ (zs : List ℕ). Linked next' p (x ∷ zs)) (sym (without_here i y ys ei ∙ without_absent i ys z)) (
        e,
        b,
        subst (λ (q : ℕ). Linked next' q ys) (sym (ap next' s ∙ en ∙ ap next (sym ei)))
            (linked_frame next next' (next y) ys
            (λ t k l. f t (let m = count_cons t x (y ∷ ys) in let m' = count_cons t y ys in omega arith) l
            (λ q. unlike_head x t (y ∷ ys) once (let m = count_cons t y ys in omega arith) (s ∙ q)))
            c.2),
      ))
  | other ne ↦ (let hr' : 0 < count r (y ∷ ys) = let a = count_there r x (y ∷ ys) ne in omega arith in
      let ny : y ≡ i → ⊥ = λ q. unlike_head y i ys (tail_once x (y ∷ ys) once) (behind next i r (next x) y ys c hi hr' er) q in
      let hi' : 0 < count i ys = let a = count_there i y ys ny in omega arith in
      let ih = cut_behind next next' i r (next x) y ys hi c (tail_once x (y ∷ ys) once) hi' hr' er en (λ t k l. f t (let m = count_cons t x (y ∷ ys) in omega arith) l) in
      let ex : next' x ≡ next x = f x (stands_here x (y ∷ ys)) b (λ q. ne (sym q)) in
      subst (λ (zs : List ℕ). Linked next' p (x ∷ zs)) (sym (without_there i y ys ny))
      (e, b, subst (λ (q : ℕ). Linked next' q (y ∷ without i ys)) (sym ex) ih))
]

-- ------------------------------------------------------------------ unindex_row

module _ (ws : List ℕ) (k b i : ℕ) (xs : List ℕ) (long : length ws ≡ 83472) (hk : k < 3) (hb : b < 4096) (hi : i < 4096) (c : Linked (next_by ws k) (word_at Buckets ws b k) xs)
    (once : (y : ℕ) → count y xs ≤ 1) (short : length xs ≤ 4096) (h : 0 < count i xs) where
  abbrev before : ℕ
  before = before_from ws k i (word_at Buckets ws b k) 4096

  abbrev after : List ℕ
  after = follow ws k b before (next_by ws k i)

  out : (ys : List ℕ) → ys ≡ xs → Linked (next_by after k) (word_at Buckets after b k) (without i ys)
  out [] e = absurd (let z = count_nil i in let a : count i [] ≡ count i xs = ap (count i) e in omega arith)
  out (x ∷ ys) e =
      let c' : Linked (next_by ws k) (word_at Buckets ws b k) (x ∷ ys) = subst (λ (zs : List ℕ). Linked (next_by ws k) (word_at Buckets ws b k) zs) (sym e) c in
      let o : (y : ℕ) → count y (x ∷ ys) ≤ 1 = subst (λ (zs : List ℕ). (y : ℕ) → count y zs ≤ 1) (sym e) once in
      elim (compare_same x i) [
        | equal s ↦ (let z : count i ys ≡ 0 = ap (λ (t : ℕ). count t ys) (sym s) ∙ head_once x ys o in
            let n : before ≡ 4096 = before_none ws k i (word_at Buckets ws b k) 4096 x ys hi c' z in
            subst (λ (zs : List ℕ). Linked (next_by after k) (word_at Buckets after b k) zs) (sym (without_here i x ys s ∙ without_absent i ys z))
            (subst (λ (q : ℕ). Linked (next_by after k) q ys) (sym (follow_head ws k b before (next_by ws k i) long (omega (arith, n)) hk hb ∙ ap (next_by ws k) (sym s)))
            (linked_frame (next_by ws k) (next_by after k) (next_by ws k x) ys (λ t l m. follow_other ws k b before (next_by ws k i) t m hk hb (λ q. omega (arith, n, q))) c'.2)))
        | other ne ↦ (let a : 0 < count i ys = let w = count_there i x ys ne in let v : count i (x ∷ ys) ≡ count i xs = ap (count i) e in omega arith in
            let r = before_some ws k i (word_at Buckets ws b k) 4096 x ys c' a (subst (λ (zs : List ℕ). length zs ≤ 4096) (sym e) short) in
            let hr : before < 4096 = linked_rows (next_by ws k) (word_at Buckets ws b k) (x ∷ ys) c' before r.among in
            subst (λ (zs : List ℕ). Linked (next_by after k) (word_at Buckets after b k) zs) (sym (without_there i x ys ne))
            (subst (λ (q : ℕ). Linked (next_by after k) q (x ∷ without i ys)) (sym (follow_head_row ws k b before (next_by ws k i) b hr hk hb))
            (cut_behind (next_by ws k) (next_by after k) i before (word_at Buckets ws b k) x ys hi c' o a r.among r.leads
            (follow_same ws k b before (next_by ws k i) long hr hk)
            (λ t l m q. follow_other ws k b before (next_by ws k i) t m hk hb q))))
      ]

  -- row i is out of its chain, the others stand in it as they did
  pub unindex_linked : Linked (next_by (unindex_row ws k b i) k) (word_at Buckets (unindex_row ws k b i) b k) (without i xs)
  unfolding unindex_row
  unindex_linked = out xs refl

  -- every other chain is as it was: it has none of these rows
  pub unindex_linked_other : (d : ℕ) (ys : List ℕ) → d < 4096 → (b ≡ d → ⊥) → ((y : ℕ) → 0 < count y xs → count y ys ≡ 0) → Linked (next_by ws k) (word_at Buckets ws d k) ys
      → Linked (next_by (unindex_row ws k b i) k) (word_at Buckets (unindex_row ws k b i) d k) ys
  unfolding unindex_row
  unindex_linked_other d ys hd ne apart l =
      subst (λ (q : ℕ). Linked (next_by after k) q ys) (sym (follow_head_other ws k b before (next_by ws k i) d hk hd ne))
      (linked_frame (next_by ws k) (next_by after k) (word_at Buckets ws d k) ys (λ t u m. follow_other ws k b before (next_by ws k i) t m hk hb (λ q. far t u q)) l)
    where
      found_or_none : (zs : List ℕ) → zs ≡ xs → (t : ℕ) → 0 < count t ys → t < 4096 → before ≡ t → ⊥
      found_or_none [] e t u m q = let z = count_nil i in let a : count i [] ≡ count i xs = ap (count i) e in omega arith
      found_or_none (x ∷ zs) e t u m q =
          let c' : Linked (next_by ws k) (word_at Buckets ws b k) (x ∷ zs) = subst (λ (vs : List ℕ). Linked (next_by ws k) (word_at Buckets ws b k) vs) (sym e) c in
          let o : (y : ℕ) → count y (x ∷ zs) ≤ 1 = subst (λ (vs : List ℕ). (y : ℕ) → count y vs ≤ 1) (sym e) once in
          elim (compare_same x i) [
            | equal s ↦ (let n : before ≡ 4096 = before_none ws k i (word_at Buckets ws b k) 4096 x zs hi c' (ap (λ (w : ℕ). count w zs) (sym s) ∙ head_once x zs o) in omega (arith, n, q))
            | other d' ↦ (let a : 0 < count i zs = let w = count_there i x zs d' in let v : count i (x ∷ zs) ≡ count i xs = ap (count i) e in omega arith in
                let r = before_some ws k i (word_at Buckets ws b k) 4096 x zs c' a (subst (λ (vs : List ℕ). length vs ≤ 4096) (sym e) short) in
                let g : 0 < count before xs = subst (λ (vs : List ℕ). 0 < count before vs) e r.among in
                not_among before t ys (apart before g) u q)
          ]

      far : (t : ℕ) → 0 < count t ys → before ≡ t → ⊥
      far t u q = found_or_none xs refl t u (linked_rows (next_by ws k) (word_at Buckets ws d k) ys l t u) q

-- ------------------------------------------------------------------ index_last

-- the row that no row follows is the last
before_last : (ws : List ℕ) (k p n x : ℕ) (xs : List ℕ) → Linked (next_by ws k) p (x ∷ xs) → length (x ∷ xs) ≤ n → before_from ws k 4096 p n ≡ last_row x xs
before_last ws k p zero x xs c l = absurd (omega arith)
before_last ws k p (suc n) x [] (e, b, c) l = found ws k 4096 p n (omega (arith, e)) (ap (next_by ws k) e ∙ c) ∙ e
before_last ws k p (suc n) x (y ∷ ys) (e, b, c) l =
    step ws k 4096 p n (omega (arith, e)) (λ s. omega (arith, c.0, c.1, s, ap (next_by ws k) e))
    ∙ ap (λ (q : ℕ). before_from ws k 4096 q n) (ap (next_by ws k) e)
    ∙ before_last ws k (next_by ws k x) n y ys c (omega arith)

module _ (ws : List ℕ) (k b i : ℕ) (long : length ws ≡ 83472) (hk : k < 3) (hb : b < 4096) (hi : i < 4096) where
  abbrev one : List ℕ
  one = put_word Links ws i (5 + k) 4096

  one_long : length one ≡ 83472
  one_long = whole_put_word Links ws i (5 + k) 4096 ∙ long

  abbrev end : ℕ
  end = before_from ws k 4096 (word_at Buckets ws b k) 4096

  abbrev two : List ℕ
  two = follow one k b end i

  next_new : (end ≡ i → ⊥) → next_by two k i ≡ 4096
  next_new ne = follow_other one k b end i i hi hk hb ne ∙ word_put_same Links ws i (5 + k) 4096 long hi (omega arith)

  next_old : (x : ℕ) → x < 4096 → (i ≡ x → ⊥) → (end ≡ x → ⊥) → next_by two k x ≡ next_by ws k x
  next_old x hx ne nl = follow_other one k b end i x hx hk hb nl ∙ word_put_other Links ws i (5 + k) 4096 x (5 + k) ne (omega arith) (omega arith)

  at_end : (xs : List ℕ) → Linked (next_by ws k) (word_at Buckets ws b k) xs → ((y : ℕ) → count y xs ≤ 1) → length xs ≤ 4096 → count i xs ≡ 0
      → Linked (next_by two k) (word_at Buckets two b k) (xs ++ (i ∷ []))
  at_end [] c once short new =
      let e : end ≡ 4096 = stops ws k 4096 (word_at Buckets ws b k) 4096 (omega (arith, c)) in
      (follow_head one k b end i one_long (omega (arith, e)) hk hb, hi, next_new (λ z. omega (arith, e, z)))
  at_end (x ∷ xs) c once short new =
      let e : end ≡ last_row x xs = before_last ws k (word_at Buckets ws b k) 4096 x xs c short in
      let among : 0 < count end (x ∷ xs) = subst (λ (y : ℕ). 0 < count y (x ∷ xs)) (sym e) (last_in x xs) in
      let he : end < 4096 = linked_rows (next_by ws k) (word_at Buckets ws b k) (x ∷ xs) c end among in
      subst (λ (q : ℕ). Linked (next_by two k) q (x ∷ xs ++ (i ∷ [])))
      (sym (follow_head_row one k b end i b he hk hb ∙ word_put_table Links Buckets ws i (5 + k) 4096 b k refl hi hb (omega arith) hk))
      (linked_snoc (next_by ws k) (next_by two k) i (word_at Buckets ws b k) x xs c once hi (next_new (λ z. not_among i end (x ∷ xs) new among (sym z)))
      (ap (next_by two k) (sym e) ∙ follow_same one k b end i one_long he hk)
      (λ y h hy ne. next_old y hy (not_among i y (x ∷ xs) new h) (λ z. ne (sym e ∙ z))))

  -- row i is the last of its chain
  pub index_last_linked : (xs : List ℕ) → Linked (next_by ws k) (word_at Buckets ws b k) xs → ((y : ℕ) → count y xs ≤ 1) → length xs ≤ 4096 → count i xs ≡ 0
      → Linked (next_by (index_last ws k b i) k) (word_at Buckets (index_last ws k b i) b k) (xs ++ (i ∷ []))
  unfolding index_last
  index_last_linked xs c once short new = at_end xs c once short new
