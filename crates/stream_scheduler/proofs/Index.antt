-- Entries by index and the table that they are: what is found in it, and how it changes when an entry is set, added or taken out by the last one. Assumes nothing.
use mathlib.Core.Path.{◌≡◌, refl, sym, ap, ap₂, ◌∙◌, subst}
use mathlib.Core.List.{List, []}
use mathlib.Core.Option.{none, some}
use Prim.Native.Nat.{ℕ, zero, suc, ◌<◌}
use native.Mathlib.Omega.{arith}
use Rattle.queue_model.specs.Types.{Active}
use Rattle.queue_model.specs.Scheduler.{active_key, find_active, put_active, without_active, least_of}
use Rattle.queue_model.proofs.Tests.{less, same, more, tri}
use Rattle.queue_model.proofs.Table.{find_nil, find_put_same, find_put_other, find_without_same, find_without_other, Rising, rising_put, rising_without, same_table, Own, own, other, is_own}
use Rattle.queue_model.proofs.Choice.{AtMost, least_is}
use Rattle.stream_scheduler.specs.Link.{table_of, Unlike}

-- ---- the table by index

pub table_nil : (e : ℕ → Active) → table_of e 0 ≡ []
unfolding table_of
table_nil e = refl

pub table_suc : (e : ℕ → Active) (n : ℕ) → table_of e (suc n) ≡ put_active (e n) (table_of e n)
unfolding table_of
table_suc e n = refl

pub rising_table : (e : ℕ → Active) (n : ℕ) → Rising active_key (table_of e n)
rising_table e zero = subst (Rising active_key) (sym (table_nil e)) tt
rising_table e (suc n) = subst (Rising active_key) (sym (table_suc e n)) (rising_put active_key (e n) (table_of e n) (rising_table e n))

fewer : (e : ℕ → Active) (n : ℕ) → Unlike e (suc n) → Unlike e n
fewer e n u i j hi hj f = u i j (omega arith) (omega arith) f

-- Every entry is found.
pub table_at : (e : ℕ → Active) (n i : ℕ) → Unlike e n → i < n → find_active (e i).stream_id (table_of e n) ≡ some (e i)
table_at e zero i u h = absurd (omega arith)
table_at e (suc n) i u h = ap (find_active (e i).stream_id) (table_suc e n) ∙ (elim (tri i n) as (λ _. find_active (e i).stream_id (put_active (e n) (table_of e n)) ≡ some (e i)) [
  | less l ↦ find_put_other active_key (e i).stream_id (e n) (table_of e n) (λ f. let g = u n i (omega arith) h f in omega arith) ∙ table_at e n i (fewer e n u) l
  | same f ↦ subst (λ (j : ℕ). find_active (e j).stream_id (put_active (e n) (table_of e n)) ≡ some (e j)) (sym f) (find_put_same active_key (e n) (table_of e n))
  | more l ↦ absurd (omega arith)
])

-- And nothing else.
pub table_none : (e : ℕ → Active) (n k : ℕ) → ((i : ℕ) → i < n → (e i).stream_id ≡ k → ⊥) → find_active k (table_of e n) ≡ none
table_none e zero k h = ap (find_active k) (table_nil e) ∙ find_nil active_key k
table_none e (suc n) k h = ap (find_active k) (table_suc e n) ∙ find_put_other active_key k (e n) (table_of e n) (h n (omega arith)) ∙ table_none e n k (λ i l. h i (omega arith))

-- A stream has an entry, or none has it.
pub data Where (e : ℕ → Active) (n k : ℕ) : Type 0 where
  at : (i : ℕ) → i < n → (e i).stream_id ≡ k → Where e n k
  nowhere : ((i : ℕ) → i < n → (e i).stream_id ≡ k → ⊥) → Where e n k

pub where_is : (e : ℕ → Active) (n k : ℕ) → Where e n k
where_is e zero k = nowhere (λ i h f. omega arith)
where_is e (suc n) k = go (is_own active_key (e n) k) (where_is e n k)
  where
    go : Own active_key (e n) k → Where e n k → Where e (suc n) k
    go (own f) w = at n (omega arith) f
    go (other g) (at i h f) = at i (omega arith) f
    go (other g) (nowhere h) = nowhere (λ i l f. elim (tri i n) [
      | less m ↦ h i m f
      | same m ↦ g (ap (λ (j : ℕ). (e j).stream_id) (sym m) ∙ f)
      | more m ↦ omega arith
    ])

-- A table in which just these are found is this table.
pub table_is : (e : ℕ → Active) (n : ℕ) (xs : List Active) → Unlike e n → Rising active_key xs → ((i : ℕ) → i < n → find_active (e i).stream_id xs ≡ some (e i))
    → ((k : ℕ) → ((i : ℕ) → i < n → (e i).stream_id ≡ k → ⊥) → find_active k xs ≡ none) → table_of e n ≡ xs
table_is e n xs u r f g = same_table active_key (table_of e n) xs (rising_table e n) r (λ k. elim (where_is e n k) [
  | at i h c ↦ subst (λ (j : ℕ). find_active j (table_of e n) ≡ find_active j xs) c (table_at e n i u h ∙ sym (f i h))
  | nowhere h ↦ table_none e n k h ∙ sym (g k h)
])

-- ---- changes

pub table_same : (e e' : ℕ → Active) (n : ℕ) → ((i : ℕ) → i < n → e' i ≡ e i) → table_of e' n ≡ table_of e n
table_same e e' zero h = table_nil e' ∙ sym (table_nil e)
table_same e e' (suc n) h = table_suc e' n ∙ ap₂ put_active (h n (omega arith)) (table_same e e' n (λ i l. h i (omega arith))) ∙ sym (table_suc e n)

pub unlike_same : (e e' : ℕ → Active) (n : ℕ) → ((i : ℕ) → i < n → (e' i).stream_id ≡ (e i).stream_id) → Unlike e n → Unlike e' n
unlike_same e e' n h u i j hi hj f = u i j hi hj (sym (h i hi) ∙ f ∙ h j hj)

-- One entry set to another of its stream.
pub table_set : (e e' : ℕ → Active) (n i : ℕ) (a : Active) → Unlike e n → i < n → a.stream_id ≡ (e i).stream_id → e' i ≡ a → ((j : ℕ) → (i ≡ j → ⊥) → e' j ≡ e j)
    → table_of e' n ≡ put_active a (table_of e n)
table_set e e' n i a u h c here there = table_is e' n (put_active a (table_of e n)) (unlike_same e e' n (λ j l. ids j) u) (rising_put active_key a (table_of e n) (rising_table e n)) finds none_else
  where
    ids : (j : ℕ) → (e' j).stream_id ≡ (e j).stream_id
    ids j = elim (tri i j) [
      | less l ↦ ap (λ (x : Active). x.stream_id) (there j (λ f. omega arith))
      | same f ↦ subst (λ (k : ℕ). (e' k).stream_id ≡ (e k).stream_id) f (ap (λ (x : Active). x.stream_id) here ∙ c)
      | more l ↦ ap (λ (x : Active). x.stream_id) (there j (λ f. omega arith))
    ]

    apart : (j : ℕ) → j < n → (i ≡ j → ⊥) → find_active (e' j).stream_id (put_active a (table_of e n)) ≡ some (e' j)
    apart j l ne =
        let f = there j ne in
        subst (λ (x : Active). find_active x.stream_id (put_active a (table_of e n)) ≡ some x) (sym f)
        (find_put_other active_key (e j).stream_id a (table_of e n) (λ g. ne (u i j h l (sym c ∙ g))) ∙ table_at e n j u l)

    finds : (j : ℕ) → j < n → find_active (e' j).stream_id (put_active a (table_of e n)) ≡ some (e' j)
    finds j l = elim (tri i j) [
      | less m ↦ apart j l (λ f. omega arith)
      | same f ↦ subst (λ (k : ℕ). find_active (e' k).stream_id (put_active a (table_of e n)) ≡ some (e' k)) f (subst (λ (x : Active). find_active x.stream_id (put_active a (table_of e n)) ≡ some x) (sym here) (find_put_same active_key a (table_of e n)))
      | more m ↦ apart j l (λ f. omega arith)
    ]

    none_else : (k : ℕ) → ((j : ℕ) → j < n → (e' j).stream_id ≡ k → ⊥) → find_active k (put_active a (table_of e n)) ≡ none
    none_else k g =
        find_put_other active_key k a (table_of e n) (λ f. g i h (ap (λ (x : Active). x.stream_id) here ∙ f))
        ∙ table_none e n k (λ j l f. g j l (ids j ∙ f))

-- One entry more, of a stream that has none.
pub table_add : (e e' : ℕ → Active) (n : ℕ) (a : Active) → e' n ≡ a → ((j : ℕ) → j < n → e' j ≡ e j) → table_of e' (suc n) ≡ put_active a (table_of e n)
table_add e e' n a here there = table_suc e' n ∙ ap₂ put_active here (table_same e e' n there)

pub unlike_add : (e e' : ℕ → Active) (n : ℕ) → Unlike e n → ((i : ℕ) → i < n → (e i).stream_id ≡ (e' n).stream_id → ⊥) → ((j : ℕ) → j < n → e' j ≡ e j) → Unlike e' (suc n)
unlike_add e e' n u new there i j hi hj f = elim (tri i n) [
  | less l ↦ elim (tri j n) [
    | less m ↦ u i j l m (ap (λ (x : Active). x.stream_id) (sym (there i l)) ∙ f ∙ ap (λ (x : Active). x.stream_id) (there j m))
    | same m ↦ absurd (new i l (ap (λ (x : Active). x.stream_id) (sym (there i l)) ∙ f ∙ ap (λ (k : ℕ). (e' k).stream_id) m))
    | more m ↦ absurd (omega arith)
  ]
  | same l ↦ elim (tri j n) [
    | less m ↦ absurd (new j m (ap (λ (x : Active). x.stream_id) (sym (there j m)) ∙ sym f ∙ ap (λ (k : ℕ). (e' k).stream_id) l))
    | same m ↦ l ∙ sym m
    | more m ↦ absurd (omega arith)
  ]
  | more l ↦ absurd (omega arith)
]

-- One entry taken out: the last one takes its place.
module _ (e e' : ℕ → Active) (n i : ℕ) (u : Unlike e (suc n)) (h : i < suc n) (here : e' i ≡ e n) (there : (j : ℕ) → (i ≡ j → ⊥) → e' j ≡ e j) where
  -- Where an entry comes from.
  data From (j : ℕ) : Type 0 where
    moved : i ≡ j → e' j ≡ e n → (i ≡ n → ⊥) → From j
    kept : (i ≡ j → ⊥) → e' j ≡ e j → From j

  from : (j : ℕ) → j < n → From j
  from j l = elim (tri i j) [
    | less m ↦ kept (λ f. omega arith) (there j (λ f. omega arith))
    | same f ↦ moved f (ap e' (sym f) ∙ here) (λ g. omega arith)
    | more m ↦ kept (λ f. omega arith) (there j (λ f. omega arith))
  ]

  pub unlike_drop : Unlike e' n
  unlike_drop j k hj hk f = go (from j hj) (from k hk)
    where
      id_of : (a b : Active) → a ≡ b → a.stream_id ≡ b.stream_id
      id_of a b g = ap (λ (x : Active). x.stream_id) g

      go : From j → From k → j ≡ k
      go (moved a b c) (moved a' b' c') = sym a ∙ a'
      go (moved a b c) (kept a' b') = let g = u n k (omega arith) (omega arith) (sym (id_of (e' j) (e n) b) ∙ f ∙ id_of (e' k) (e k) b') in absurd (omega arith)
      go (kept a b) (moved a' b' c') = let g = u j n (omega arith) (omega arith) (sym (id_of (e' j) (e j) b) ∙ f ∙ id_of (e' k) (e n) b') in absurd (omega arith)
      go (kept a b) (kept a' b') = u j k (omega arith) (omega arith) (sym (id_of (e' j) (e j) b) ∙ f ∙ id_of (e' k) (e k) b')

  other_found : (j : ℕ) → j < suc n → (i ≡ j → ⊥) → find_active (e j).stream_id (without_active (e i).stream_id (table_of e (suc n))) ≡ some (e j)
  other_found j l ne = find_without_other active_key (e j).stream_id (e i).stream_id (table_of e (suc n)) (λ f. ne (u i j h l (sym f))) ∙ table_at e (suc n) j u l

  pub table_drop : table_of e' n ≡ without_active (e i).stream_id (table_of e (suc n))
  table_drop = table_is e' n (without_active (e i).stream_id (table_of e (suc n))) unlike_drop (rising_without active_key (e i).stream_id (table_of e (suc n)) (rising_table e (suc n))) finds none_else
    where
      finds : (j : ℕ) → j < n → find_active (e' j).stream_id (without_active (e i).stream_id (table_of e (suc n))) ≡ some (e' j)
      finds j l = elim (from j l) [
        | moved a b c ↦ subst (λ (x : Active). find_active x.stream_id (without_active (e i).stream_id (table_of e (suc n))) ≡ some x) (sym b) (other_found n (omega arith) c)
        | kept a b ↦ subst (λ (x : Active). find_active x.stream_id (without_active (e i).stream_id (table_of e (suc n))) ≡ some x) (sym b) (other_found j (omega arith) a)
      ]

      absent : (k : ℕ) → ((e i).stream_id ≡ k → ⊥) → ((j : ℕ) → j < n → (e' j).stream_id ≡ k → ⊥) → (j : ℕ) → j < suc n → (e j).stream_id ≡ k → ⊥
      absent k ne g j l f = elim (tri i j) [
        | same m ↦ ne (ap (λ (x : ℕ). (e x).stream_id) m ∙ f)
        | less m ↦ last (λ c. omega arith)
        | more m ↦ last (λ c. omega arith)
      ]
        where
          last : (i ≡ j → ⊥) → ⊥
          last ij = elim (tri j n) [
            | less m ↦ g j m (ap (λ (x : Active). x.stream_id) (there j ij) ∙ f)
            | same m ↦ g i (omega arith) (ap (λ (x : Active). x.stream_id) here ∙ ap (λ (x : ℕ). (e x).stream_id) (sym m) ∙ f)
            | more m ↦ omega arith
          ]

      none_else : (k : ℕ) → ((j : ℕ) → j < n → (e' j).stream_id ≡ k → ⊥) → find_active k (without_active (e i).stream_id (table_of e (suc n))) ≡ none
      none_else k g = elim (tri (e i).stream_id k) [
        | same f ↦ subst (λ (x : ℕ). find_active x (without_active (e i).stream_id (table_of e (suc n))) ≡ none) f (find_without_same active_key (e i).stream_id (table_of e (suc n)))
        | less m ↦ gone k (λ f. omega arith) g
        | more m ↦ gone k (λ f. omega arith) g
      ]
        where
          gone : (k : ℕ) → ((e i).stream_id ≡ k → ⊥) → ((j : ℕ) → j < n → (e' j).stream_id ≡ k → ⊥) → find_active k (without_active (e i).stream_id (table_of e (suc n))) ≡ none
          gone k ne g = find_without_other active_key k (e i).stream_id (table_of e (suc n)) (λ f. ne (sym f)) ∙ table_none e (suc n) k (absent k ne g)

-- A stream that has no entry need not be taken out.
pub table_without : (e : ℕ → Active) (n k : ℕ) → ((i : ℕ) → i < n → (e i).stream_id ≡ k → ⊥) → without_active k (table_of e n) ≡ table_of e n
table_without e n k h = same_table active_key (without_active k (table_of e n)) (table_of e n) (rising_without active_key k (table_of e n) (rising_table e n)) (rising_table e n) (λ j. elim (tri j k) [
  | less l ↦ find_without_other active_key j k (table_of e n) (λ f. omega arith)
  | same f ↦ subst (λ (x : ℕ). find_active x (without_active k (table_of e n)) ≡ find_active x (table_of e n)) (sym f) (find_without_same active_key k (table_of e n) ∙ sym (table_none e n k h))
  | more l ↦ find_without_other active_key j k (table_of e n) (λ f. omega arith)
])

-- A table from which a stream is taken out, and put back, or taken out again.
module _ (xs : List Active) (r : Rising active_key xs) where
  pub put_without : (a : Active) → put_active a (without_active a.stream_id xs) ≡ put_active a xs
  put_without a =
      let ys : List Active = without_active a.stream_id xs in
      let other : (k : ℕ) → (a.stream_id ≡ k → ⊥) → find_active k (put_active a ys) ≡ find_active k (put_active a xs) = λ k ne. find_put_other active_key k a ys ne ∙ find_without_other active_key k a.stream_id xs (λ f. ne (sym f)) ∙ sym (find_put_other active_key k a xs ne) in
      same_table active_key (put_active a ys) (put_active a xs) (rising_put active_key a ys (rising_without active_key a.stream_id xs r)) (rising_put active_key a xs r) (λ k. elim (tri a.stream_id k) [
        | less l ↦ other k (λ f. omega arith)
        | same f ↦ subst (λ (x : ℕ). find_active x (put_active a ys) ≡ find_active x (put_active a xs)) f (find_put_same active_key a ys ∙ sym (find_put_same active_key a xs))
        | more l ↦ other k (λ f. omega arith)
      ])

  pub without_twice : (k : ℕ) → without_active k (without_active k xs) ≡ without_active k xs
  without_twice k =
      let ys : List Active = without_active k xs in
      same_table active_key (without_active k ys) ys (rising_without active_key k ys (rising_without active_key k xs r)) (rising_without active_key k xs r) (λ j. elim (tri j k) [
        | less l ↦ find_without_other active_key j k ys (λ f. omega arith)
        | same f ↦ subst (λ (x : ℕ). find_active x (without_active k ys) ≡ find_active x ys) (sym f) (find_without_same active_key k ys ∙ sym (find_without_same active_key k xs))
        | more l ↦ find_without_other active_key j k ys (λ f. omega arith)
      ])

-- ---- the choice

pub table_least : (e : ℕ → Active) (n i : ℕ) → Unlike e n → i < n → ((j : ℕ) → j < n → AtMost (e i) (e j)) → least_of (table_of e n) ≡ some (e i)
table_least e n i u h b = least_is (e i) (table_of e n) (rising_table e n) (table_at e n i u h) (λ k y f. elim (where_is e n k) [
  | at j l c ↦ (let g : some (e j) ≡ some y = sym (table_at e n j u l) ∙ ap (λ (x : ℕ). find_active x (table_of e n)) c ∙ f in let z : e j ≡ y = cc in subst (AtMost (e i)) z (b j l))
  | nowhere g ↦ (let z : ◌≡◌ {A = ℕ} 0 1 = cc (table_none e n k g) in absurd (omega arith))
])
