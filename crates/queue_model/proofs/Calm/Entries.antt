-- The entries of a calm scheduler: every stream with messages, from time 0. Assumes nothing.
use mathlib.Core.Path.{◌≡◌, refl, sym, ap, ◌∙◌, subst}
use mathlib.Core.Bool.{Bool}
use mathlib.Core.List.{List, [], ◌∷◌, ◌++◌}
use Prim.Native.Nat.{ℕ}
use native.Mathlib.Omega.{arith}
use Rattle.queue_model.specs.Table.{without}
use Rattle.queue_model.specs.Types.{Item, Stream, Active}
use Rattle.queue_model.specs.Scheduler.{scheduled, put_active, without_active, active_key}
use Rattle.queue_model.specs.Streams.{put_stream, weight_of, head_size, stream_key}
use Rattle.queue_model.proofs.Tests.{less, same, more, tri}
use Rattle.queue_model.proofs.Table.{After, Rising, after_down, empty, first, put_before, put_end, put_here, put_later, split, without_here, without_nil, without_there}

-- ---- the entries of a calm scheduler: every stream with messages, from time 0

-- A stream's entry, if it has messages.
abbrev pub entry : ℕ → Bool → Stream → Active
entry limit il s = scheduled limit s.id (weight_of il s) 0 (head_size s.items)

abbrev pub entries : ℕ → Bool → Stream → List Item → List Active
entries limit il s [] = []
entries limit il s (i ∷ is) = entry limit il s ∷ []

abbrev pub actives : ℕ → Bool → List Stream → List Active
actives limit il [] = []
actives limit il (s ∷ ss) = entries limit il s s.items ++ actives limit il ss

pub entry_id : (limit : ℕ) (il : Bool) (s : Stream) → (entry limit il s).stream_id ≡ s.id
unfolding scheduled
entry_id limit il s = refl

module _ (limit : ℕ) (il : Bool) where
  pub actives_none : (s : Stream) (ss : List Stream) → s.items ≡ [] → actives limit il (s ∷ ss) ≡ actives limit il ss
  actives_none s ss e = ap (λ (is : List Item). entries limit il s is ++ actives limit il ss) e

  pub actives_some : (s : Stream) (ss : List Stream) (i : Item) (is : List Item) → s.items ≡ i ∷ is → actives limit il (s ∷ ss) ≡ entry limit il s ∷ actives limit il ss
  actives_some s ss i is e = ap (λ (l : List Item). entries limit il s l ++ actives limit il ss) e

module _ (limit : ℕ) (il : Bool) where
  -- A stream that is in none of the entries can be taken out of them, or put before them.
  pub without_after : (k : ℕ) (ss : List Stream) → After stream_key k ss → without_active k (actives limit il ss) ≡ actives limit il ss
  without_after k [] a = unfold without in refl
  without_after k (s ∷ ss) a = elim (split s.items) [
    | empty e ↦ ap (without_active k) (actives_none limit il s ss e) ∙ without_after k ss a.1 ∙ sym (actives_none limit il s ss e)
    | first i is e ↦ (let l = a.0 in let d = entry_id limit il s in
        ap (without_active k) (actives_some limit il s ss i is e) ∙ without_there active_key k (entry limit il s) (actives limit il ss) (λ f. omega arith)
        ∙ ap (λ (x : List Active). entry limit il s ∷ x) (without_after k ss a.1) ∙ sym (actives_some limit il s ss i is e))
  ]

  pub put_front : (x : Active) (ss : List Stream) → After stream_key x.stream_id ss → put_active x (actives limit il ss) ≡ x ∷ actives limit il ss
  put_front x [] a = put_end active_key x
  put_front x (s ∷ ss) a = elim (split s.items) [
    | empty e ↦ ap (put_active x) (actives_none limit il s ss e) ∙ put_front x ss a.1 ∙ ap (λ (l : List Active). x ∷ l) (sym (actives_none limit il s ss e))
    | first i is e ↦ (let l = a.0 in let d = entry_id limit il s in
        ap (put_active x) (actives_some limit il s ss i is e) ∙ put_before active_key x (entry limit il s) (actives limit il ss) (omega arith)
        ∙ ap (λ (l : List Active). x ∷ l) (sym (actives_some limit il s ss i is e)))
  ]

  -- Putting a stream with no messages takes its entry out.
  pub actives_put_none : (s : Stream) (ss : List Stream) → Rising stream_key ss → s.items ≡ [] → without_active s.id (actives limit il ss) ≡ actives limit il (put_stream s ss)
  actives_put_none s [] a e = without_nil active_key s.id ∙ sym (actives_none limit il s [] e) ∙ ap (actives limit il) (sym (put_end stream_key s))
  actives_put_none s (r ∷ rs) a e = elim (tri r.id s.id) [
    | less h ↦ elim (split r.items) [
      | empty f ↦ ap (without_active s.id) (actives_none limit il r rs f) ∙ actives_put_none s rs a.1 e ∙ sym (actives_none limit il r (put_stream s rs) f) ∙ ap (actives limit il) (sym (put_later stream_key s r rs h))
      | first i is f ↦ (let d = entry_id limit il r in
          ap (without_active s.id) (actives_some limit il r rs i is f) ∙ without_there active_key s.id (entry limit il r) (actives limit il rs) (λ g. omega arith)
          ∙ ap (λ (x : List Active). entry limit il r ∷ x) (actives_put_none s rs a.1 e) ∙ sym (actives_some limit il r (put_stream s rs) i is f) ∙ ap (actives limit il) (sym (put_later stream_key s r rs h)))
    ]
    | same g ↦ (let below : After stream_key s.id rs = subst (λ (k : ℕ). After stream_key k rs) g a.0 in
        (elim (split r.items) as (λ x. without_active s.id (actives limit il (r ∷ rs)) ≡ actives limit il rs) [
          | empty f ↦ ap (without_active s.id) (actives_none limit il r rs f) ∙ without_after s.id rs below
          | first i is f ↦ ap (without_active s.id) (actives_some limit il r rs i is f) ∙ without_here active_key s.id (entry limit il r) (actives limit il rs) (entry_id limit il r ∙ g) ∙ without_after s.id rs below
        ])
        ∙ sym (actives_none limit il s rs e) ∙ ap (actives limit il) (sym (put_here stream_key s r rs g)))
    | more h ↦ without_after s.id (r ∷ rs) (h, after_down stream_key rs h a.0) ∙ sym (actives_none limit il s (r ∷ rs) e) ∙ ap (actives limit il) (sym (put_before stream_key s r rs h))
  ]

  -- Putting a stream with messages puts its entry.
  pub actives_put_some : (s : Stream) (ss : List Stream) (j : Item) (js : List Item) → Rising stream_key ss → s.items ≡ j ∷ js → put_active (entry limit il s) (actives limit il ss) ≡ actives limit il (put_stream s ss)
  actives_put_some s [] j js a e = put_end active_key (entry limit il s) ∙ sym (actives_some limit il s [] j js e) ∙ ap (actives limit il) (sym (put_end stream_key s))
  actives_put_some s (r ∷ rs) j js a e = elim (tri r.id s.id) [
    | less h ↦ elim (split r.items) [
      | empty f ↦ ap (put_active (entry limit il s)) (actives_none limit il r rs f) ∙ actives_put_some s rs j js a.1 e ∙ sym (actives_none limit il r (put_stream s rs) f) ∙ ap (actives limit il) (sym (put_later stream_key s r rs h))
      | first i is f ↦ (let d = entry_id limit il r in let d' = entry_id limit il s in
          ap (put_active (entry limit il s)) (actives_some limit il r rs i is f) ∙ put_later active_key (entry limit il s) (entry limit il r) (actives limit il rs) (omega arith)
          ∙ ap (λ (x : List Active). entry limit il r ∷ x) (actives_put_some s rs j js a.1 e) ∙ sym (actives_some limit il r (put_stream s rs) i is f) ∙ ap (actives limit il) (sym (put_later stream_key s r rs h)))
    ]
    | same g ↦ (let below : After stream_key (entry limit il s).stream_id rs = subst (λ (k : ℕ). After stream_key k rs) (g ∙ sym (entry_id limit il s)) a.0 in
        (elim (split r.items) as (λ x. put_active (entry limit il s) (actives limit il (r ∷ rs)) ≡ entry limit il s ∷ actives limit il rs) [
          | empty f ↦ ap (put_active (entry limit il s)) (actives_none limit il r rs f) ∙ put_front (entry limit il s) rs below
          | first i is f ↦ ap (put_active (entry limit il s)) (actives_some limit il r rs i is f) ∙ put_here active_key (entry limit il s) (entry limit il r) (actives limit il rs) (entry_id limit il r ∙ g ∙ sym (entry_id limit il s))
        ])
        ∙ sym (actives_some limit il s rs j js e) ∙ ap (actives limit il) (sym (put_here stream_key s r rs g)))
    | more h ↦ (let below : After stream_key (entry limit il s).stream_id (r ∷ rs) = subst (λ (k : ℕ). After stream_key k (r ∷ rs)) (sym (entry_id limit il s)) (h, after_down stream_key rs h a.0) in
        put_front (entry limit il s) (r ∷ rs) below ∙ sym (actives_some limit il s (r ∷ rs) j js e) ∙ ap (actives limit il) (sym (put_before stream_key s r rs h)))
  ]
