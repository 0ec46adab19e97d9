-- The loops over the lent lists, over plain values: a callee's result is a variable, what it ensures a hypothesis. Assumes nothing.
use mathlib.Core.Path.{◌≡◌, refl, sym, ap, ap₂, ◌∙◌, subst}
use mathlib.Core.Bool.{Bool, true, false, not, ◌||◌}
use mathlib.Core.List.{List, [], ◌∷◌, ◌++◌}
use Prim.Native.Nat.{ℕ, zero, suc, ◌+◌, ◌-◌, ◌/◌, ◌≤◌, ◌<◌}
use native.Mathlib.Nat.{div-le_self}
use native.Mathlib.Numerals.{add-one}
use native.Mathlib.Omega.{arith}
use lib.Dec.{T, eqb, ltb, eqb→eq}
use lib.ListN.{length, get_or, take, drop, set, replicate, replicate-append-replicate, drop_of_length-le}
use lib.Seq.{drop-cons, take-length}
use Rattle.std.proofs.lemmas.List.{length-drop}
use Rattle.std.specs.Prelude.{if◌then◌else◌}
use Rattle.std.specs.List.{list_any}
use Rattle.std.proofs.lemmas.Bool.{false≢true}
use Rattle.queue_model.specs.Logic.{outside, any, is_nil}
use Rattle.queue_model.specs.Refusals.{limit_wrong, ◌when◌, first_refusal, max_payload}
use Rattle.queue_model.proofs.Tests.{ltb_true, ltb_false, eqb_true, eqb_false, holds}
use Rattle.queue_model.proofs.Checks.{or_left, or_right, not_less}
use Rattle.priority_plan.specs.PlannedPriorities.{PlannedPriorities}
use Rattle.queue_streams.specs.Call.{Accepted}
use Rattle.priority_plan.specs.Works.{PlannedStream, planned_streams, first_entry, max_priority}
use Rattle.priority_plan.specs.Least.{no_bound, bound, least_priority, least_set, max_limit, full_cost, bound_before}
use Rattle.priority_plan.specs.Lists.{named_twice, size_outside, list_wrong, max_planned}
use Rattle.priority_plan.specs.Plan.{none_works, refused_plan, made_plan, plan_or, least_plan, planned}
use Rattle.priority_plan.proofs.LeastSet.{full_fits, finish_is, finish_some, least_count}
use Rattle.priority_plan.proofs.Answer.{good_list}

-- ---- tests on the rest of a list

pub rest_at : (xs : List ℕ) (i : ℕ) → i < length xs → drop i xs ≡ get_or xs i 0 ∷ drop (i + 1) xs
rest_at xs i h = rw (add-one, drop-cons xs i 0)

pub or_true : (x y : Bool) → y ≡ true → (x || y) ≡ true
or_true true y e = refl
or_true false y e = e

any_drop : (t : ℕ → Bool) (i : ℕ) (xs : List ℕ) → any t (drop i xs) ≡ true → any t xs ≡ true
unfolding any
any_drop t zero xs e = e
any_drop t (suc i) [] e = e
any_drop t (suc i) (x ∷ xs) e = or_true (t x) (any t xs) (any_drop t i xs e)

none_at : (t : ℕ → Bool) (xs : List ℕ) (i : ℕ) → any t xs ≡ false → i < length xs → t (get_or xs i 0) ≡ false
unfolding any
none_at t [] i e h = absurd (omega arith)
none_at t (x ∷ xs) zero e h = or_left (t x) (any t xs) e
none_at t (x ∷ xs) (suc i) e h = none_at t xs i (or_right (t x) (any t xs) e) (omega arith)

-- ---- the library's tests on a list

pub some_is : (t : ℕ → Bool) (xs : List ℕ) → list_any t xs ≡ any t xs
unfolding any
some_is t [] = refl
some_is t (x ∷ xs) = ap (λ (b : Bool). t x || b) (some_is t xs)

eqb_swap : (m n : ℕ) → eqb m n ≡ eqb n m
eqb_swap m n = go (eqb m n) refl
  where
    go : (b : Bool) → eqb m n ≡ b → b ≡ eqb n m
    go true e = let z : T (eqb m n) = holds (eqb m n) e in sym (eqb_true (sym (eqb→eq m n z)))
    go false e = sym (eqb_false (λ z. false≢true (sym e ∙ eqb_true (sym z))))

contains_is : (n : ℕ) (xs : List ℕ) → list_any (λ x. eqb x n) xs ≡ any (eqb n) xs
unfolding any
contains_is n [] = refl
contains_is n (x ∷ xs) = ap₂ ◌||◌ (eqb_swap x n) (contains_is n xs)

pub rest_has : (n k : ℕ) (xs : List ℕ) (r : Bool) → r ≡ list_any (λ x. eqb x n) (take (length xs - k) (drop k xs)) → r ≡ any (eqb n) (drop k xs)
rest_has n k xs r e =
    let z : take (length xs - k) (drop k xs) ≡ drop k xs = ap (λ (j : ℕ). take j (drop k xs)) (sym (length-drop k xs)) ∙ take-length (drop k xs) in
    e ∙ ap (list_any (λ x. eqb x n)) z ∙ contains_is n (drop k xs)

-- ---- an id named twice

twice_at : (xs : List ℕ) (i : ℕ) → i < length xs → named_twice (drop i xs) ≡ (any (eqb (get_or xs i 0)) (drop (i + 1) xs) || named_twice (drop (i + 1) xs))
unfolding named_twice
twice_at xs i h = ap named_twice (rest_at xs i h)

module _ (xs : List ℕ) (i : ℕ) (inv : named_twice xs ≡ named_twice (drop i xs)) where
  module _ (h : i < length xs) (r : Bool) (er : r ≡ any (eqb (get_or xs i 0)) (drop (i + 1) xs)) where
    pub twice_found : r ≡ true → true ≡ named_twice xs
    twice_found e = sym (inv ∙ twice_at xs i h ∙ ap (λ (b : Bool). b || named_twice (drop (i + 1) xs)) (sym er ∙ e))

    pub twice_next : r ≡ false → named_twice xs ≡ named_twice (drop (i + 1) xs)
    twice_next e = inv ∙ twice_at xs i h ∙ ap (λ (b : Bool). b || named_twice (drop (i + 1) xs)) (sym er ∙ e)

  pub twice_end : length xs ≤ i → false ≡ named_twice xs
  unfolding named_twice
  twice_end h = sym (inv ∙ ap named_twice (drop_of_length-le xs h))

-- ---- a size outside

pub sizes_are : (xs : List ℕ) → size_outside xs ≡ any (outside 1 max_payload) xs
unfolding size_outside
sizes_are xs = refl

-- ---- the streams from a place on

pub planned_at : (ids sizes : List ℕ) (i : ℕ) → i < length ids → length ids ≡ length sizes
    → planned_streams (drop i ids) (drop i sizes) ≡ record { stream_id = get_or ids i 0; size = get_or sizes i 0 } ∷ planned_streams (drop (i + 1) ids) (drop (i + 1) sizes)
unfolding planned_streams
planned_at ids sizes i h e = ap₂ planned_streams (rest_at ids i h) (rest_at sizes i (omega arith))

planned_end : (ids sizes : List ℕ) → length ids ≡ length sizes → planned_streams (drop (length ids) ids) (drop (length ids) sizes) ≡ []
unfolding planned_streams
planned_end ids sizes e = ap₂ planned_streams (drop_of_length-le ids {i = length ids} (omega arith)) (drop_of_length-le sizes {i = length ids} (omega arith))

pub planned_count : (ids sizes : List ℕ) → length ids ≡ length sizes → length (planned_streams ids sizes) ≡ length ids
unfolding planned_streams
planned_count [] [] e = refl
planned_count [] (n ∷ ns) e = refl
planned_count (i ∷ is) [] e = absurd (omega arith)
planned_count (i ∷ is) (n ∷ ns) e = ap suc (planned_count is ns (omega arith))

-- The priorities from a place on are the last ones of the whole set.
least_drop : (limit i : ℕ) (ids sizes : List ℕ) → length ids ≡ length sizes → least_set limit (planned_streams (drop i ids) (drop i sizes)) ≡ drop i (least_set limit (planned_streams ids sizes))
unfolding planned_streams least_set
least_drop limit zero ids sizes e = refl
least_drop limit (suc i) [] [] e = refl
least_drop limit (suc i) [] (n ∷ ns) e = absurd (omega arith)
least_drop limit (suc i) (x ∷ xs) [] e = absurd (omega arith)
least_drop limit (suc i) (x ∷ xs) (n ∷ ns) e = least_drop limit i xs ns (omega arith)

-- Storing before what is filled.
set_before : (n p : ℕ) (xs : List ℕ) → set (replicate (suc n) 0 ++ xs) n p ≡ replicate n 0 ++ (p ∷ xs)
set_before zero p xs = refl
set_before (suc n) p xs = ap (λ (l : List ℕ). 0 ∷ l) (set_before n p xs)

-- ---- the plan, from the last stream to the first

abbrev rest_planned : List ℕ → List ℕ → ℕ → List PlannedStream
rest_planned ids sizes i = planned_streams (drop i ids) (drop i sizes)

abbrev rest_set : ℕ → List ℕ → List ℕ → ℕ → List ℕ
rest_set limit ids sizes i = least_set limit (rest_planned ids sizes i)

-- The streams from i on have their priorities; the next stream to come is bounded by this finish time and id.
pub record State (limit : ℕ) (ids sizes values : List ℕ) (finish next i : ℕ) : Type 0 where
  pub within : i ≤ length ids
  pub filled : values ≡ replicate i 0 ++ (rest_set limit ids sizes i ++ replicate (max_planned - length ids) 0)
  pub small : any (ltb max_priority) (rest_set limit ids sizes i) ≡ false
  pub bounds : (id : ℕ) → bound_before id next finish ≡ bound limit id (rest_planned ids sizes i) (rest_set limit ids sizes i)
  pub positive : 0 < finish
  pub below : finish ≤ no_bound

-- What the call may take for granted of its lists.
abbrev pub Given : ℕ → List ℕ → List ℕ → Type 0
Given limit ids sizes = ((0 < limit) × (limit ≤ max_limit)) × ((length ids ≤ max_planned) × ((length ids ≡ length sizes) × (size_outside sizes ≡ false)))

module _ (limit : ℕ) (ids sizes : List ℕ) (g : Given limit ids sizes) where
  count_same : length ids ≡ length sizes
  count_same = g.1.1.0

  pub state_start : State limit ids sizes (replicate max_planned 0) no_bound 0 (length ids)
  unfolding least_set bound any
  state_start =
      let e : rest_planned ids sizes (length ids) ≡ [] = planned_end ids sizes count_same in
      let few = g.1.0 in
      let n : length ids + (max_planned - length ids) ≡ max_planned = omega arith in
      record {
        within = omega arith;
        filled =
            ap (λ (k : ℕ). replicate k 0) (sym n) ∙ sym (replicate-append-replicate (length ids) (max_planned - length ids) 0)
            ∙ ap (λ (hs : List PlannedStream). replicate (length ids) 0 ++ (least_set limit hs ++ replicate (max_planned - length ids) 0)) (sym e);
        small = ap (λ (hs : List PlannedStream). any (ltb max_priority) (least_set limit hs)) e;
        bounds = λ id. let z : 0 ≤ id = omega arith in ap (λ (b : Bool). if b then suc no_bound else no_bound) (ltb_false z) ∙ ap (λ (hs : List PlannedStream). bound limit id hs (least_set limit hs)) (sym e);
        positive = omega arith;
        below = omega arith;
      }

  module _ (values : List ℕ) (finish next i at id size b p : ℕ) (s : State limit ids sizes values finish next i) (hi : 0 < i) (ea : at ≡ i - 1)
      (ed : id ≡ get_or ids at 0) (ez : size ≡ get_or sizes at 0) (eb : b ≡ bound_before id next finish) (ep : p ≡ least_priority limit size b) where
    this : PlannedStream
    this = record { stream_id = id; size = size }

    inside : at < length ids
    inside = let w = s.within in omega arith

    rest_is : rest_planned ids sizes at ≡ this ∷ rest_planned ids sizes i
    unfolding this
    rest_is =
        let z : at + 1 ≡ i = omega arith in
        planned_at ids sizes at inside count_same
        ∙ ap₂ (λ (x y : ℕ). record { stream_id = x; size = y } ∷ planned_streams (drop (at + 1) ids) (drop (at + 1) sizes)) (sym ed) (sym ez)
        ∙ ap (λ (k : ℕ). record { stream_id = id; size = size } ∷ planned_streams (drop k ids) (drop k sizes)) z

    set_is : rest_set limit ids sizes at ≡ p ∷ rest_set limit ids sizes i
    unfolding least_set this
    set_is =
        ap (least_set limit) rest_is
        ∙ ap (λ (x : ℕ). least_priority limit size x ∷ rest_set limit ids sizes i) (sym (eb ∙ s.bounds id))
        ∙ ap (λ (x : ℕ). x ∷ rest_set limit ids sizes i) (sym ep)

    pub bound_positive : 0 < b
    bound_positive = let z = s.positive in subst (λ (x : ℕ). 0 < x) (sym eb) (go (ltb id next) z)
      where
        go : (x : Bool) → 0 < finish → 0 < (if x then suc finish else finish)
        go true z = omega arith
        go false z = z

    -- One priority above 65,535.
    pub state_none : max_priority < p → refused_plan 29 ≡ least_plan limit (planned_streams ids sizes)
    unfolding least_plan none_works any
    state_none h =
        let l : List ℕ = least_set limit (planned_streams ids sizes) in
        let e : any (ltb max_priority) (rest_set limit ids sizes at) ≡ true = ap (any (ltb max_priority)) set_is ∙ ap (λ (x : Bool). x || any (ltb max_priority) (rest_set limit ids sizes i)) (ltb_true h) in
        let f : any (ltb max_priority) (least_set limit (planned_streams ids sizes)) ≡ true = any_drop (ltb max_priority) at l (ap (any (ltb max_priority)) (sym (least_drop limit at ids sizes count_same)) ∙ e) in
        ap (λ (x : Bool). if x then refused_plan 29 else made_plan (least_set limit (planned_streams ids sizes))) (sym f)

    size_some : 1 ≤ size
    size_some =
        let h = inside in let e = count_same in
        let o : outside 1 max_payload (get_or sizes at 0) ≡ false = none_at (outside 1 max_payload) sizes at (sym (sizes_are sizes) ∙ g.1.1.1) (omega arith) in
        subst (λ (x : ℕ). 1 ≤ x) (sym ez) (not_less (get_or sizes at 0) 1 (or_left (ltb (get_or sizes at 0) 1) (ltb max_payload (get_or sizes at 0)) o))

    priority_some : 1 ≤ p
    unfolding least_priority
    priority_some = omega arith

    pub state_next : (f : ℕ) → p ≤ max_priority → f ≡ full_cost limit size / p → State limit ids sizes (set values at p) f id at
    unfolding bound any this
    state_next f h ef =
        let w = s.within in let l₁ = g.0.0 in let l₂ = g.0.1 in
        let z : i ≡ suc at = omega arith in
        let e : (first_entry limit this p).finish ≡ full_cost limit size / p = finish_is limit this p l₂ priority_some in
        let fe : f ≡ (first_entry limit this p).finish = ef ∙ sym e in
        let pos : 0 < (first_entry limit this p).finish = finish_some limit this p (l₁, l₂) size_some (priority_some, h) in
        let d : full_cost limit size / p ≤ full_cost limit size = div-le_self (full_cost limit size) p in
        let ff = full_fits limit size l₂ in
        let r : List ℕ = rest_set limit ids sizes i in
        record {
          within = omega arith;
          filled =
              ap (λ (v : List ℕ). set v at p) (s.filled ∙ ap (λ (k : ℕ). replicate k 0 ++ (rest_set limit ids sizes i ++ replicate (max_planned - length ids) 0)) z)
              ∙ set_before at p (r ++ replicate (max_planned - length ids) 0)
              ∙ ap (λ (l : List ℕ). replicate at 0 ++ (l ++ replicate (max_planned - length ids) 0)) (sym set_is);
          small = ap (any (ltb max_priority)) set_is ∙ ap (λ (x : Bool). x || any (ltb max_priority) r) (ltb_false h) ∙ s.small;
          bounds = λ j. ap (λ (x : ℕ). if ltb j id then suc x else x) fe ∙ ap₂ (λ (hs : List PlannedStream) (ps : List ℕ). bound limit j hs ps) (sym rest_is) (sym set_is);
          positive = omega arith;
          below = omega arith;
        }

  pub state_end : (values : List ℕ) (finish next i : ℕ) → State limit ids sizes values finish next i → i ≤ 0 → record { answer = Accepted 0; count = length ids; values = values } ≡ least_plan limit (planned_streams ids sizes)
  unfolding least_plan none_works
  state_end values finish next i s h =
      let z : i ≡ 0 = omega arith in
      let ls : List ℕ = least_set limit (planned_streams ids sizes) in
      let n : any (ltb max_priority) (least_set limit (planned_streams ids sizes)) ≡ false = ap (λ (k : ℕ). any (ltb max_priority) (rest_set limit ids sizes k)) (sym z) ∙ s.small in
      let v : values ≡ least_set limit (planned_streams ids sizes) ++ replicate (max_planned - length ids) 0 = s.filled ∙ ap (λ (k : ℕ). replicate k 0 ++ (rest_set limit ids sizes k ++ replicate (max_planned - length ids) 0)) z in
      let c : length ids ≡ length (least_set limit (planned_streams ids sizes)) = sym (least_count limit (planned_streams ids sizes) ∙ planned_count ids sizes count_same) in
      ap₂ made_of c (v ∙ ap (λ (k : ℕ). ls ++ replicate (max_planned - k) 0) c) ∙ ap (λ (x : Bool). if x then refused_plan 29 else made_plan (least_set limit (planned_streams ids sizes))) (sym n)
    where
      made_of : ℕ → List ℕ → PlannedPriorities
      made_of n vs = record { answer = Accepted 0; count = n; values = vs }

-- ---- the list by its tests

nil_empty : (xs : List ℕ) → length xs ≡ 0 → is_nil xs ≡ true
unfolding is_nil
nil_empty [] e = refl
nil_empty (x ∷ xs) e = absurd (omega arith)

nil_some : (xs : List ℕ) → (length xs ≡ 0 → ⊥) → is_nil xs ≡ false
unfolding is_nil
nil_some [] n = absurd (n refl)
nil_some (x ∷ xs) n = refl

module _ (ids sizes : List ℕ) where
  pub list_empty : length ids ≡ 0 → true ≡ list_wrong ids sizes
  unfolding list_wrong
  list_empty e = sym (ap (λ (b : Bool). b || (ltb max_planned (length ids) || (not (eqb (length ids) (length sizes)) || (named_twice ids || size_outside sizes)))) (nil_empty ids e))

  pub list_long : max_planned < length ids → true ≡ list_wrong ids sizes
  unfolding list_wrong
  list_long h = sym (or_true (is_nil ids) _ (ap (λ (b : Bool). b || (not (eqb (length ids) (length sizes)) || (named_twice ids || size_outside sizes))) (ltb_true h)))

  pub list_unlike : (length ids ≡ length sizes → ⊥) → true ≡ list_wrong ids sizes
  unfolding list_wrong
  list_unlike n = sym (or_true (is_nil ids) _ (or_true (ltb max_planned (length ids)) _ (ap (λ (b : Bool). not b || (named_twice ids || size_outside sizes)) (eqb_false n))))

  pub list_twice : named_twice ids ≡ true → true ≡ list_wrong ids sizes
  unfolding list_wrong
  list_twice e = sym (or_true (is_nil ids) _ (or_true (ltb max_planned (length ids)) _ (or_true (not (eqb (length ids) (length sizes))) _ (ap (λ (b : Bool). b || size_outside sizes) e))))

  pub list_rest : (length ids ≡ 0 → ⊥) → length ids ≤ max_planned → length ids ≡ length sizes → named_twice ids ≡ false → size_outside sizes ≡ list_wrong ids sizes
  unfolding list_wrong
  list_rest n h e t =
      sym (ap (λ (b : Bool). b || (ltb max_planned (length ids) || (not (eqb (length ids) (length sizes)) || (named_twice ids || size_outside sizes)))) (nil_some ids n)
      ∙ ap (λ (b : Bool). b || (not (eqb (length ids) (length sizes)) || (named_twice ids || size_outside sizes))) (ltb_false h)
      ∙ ap (λ (b : Bool). not b || (named_twice ids || size_outside sizes)) (eqb_true e)
      ∙ ap (λ (b : Bool). b || size_outside sizes) t)

-- ---- the call by its tests

module _ (limit : ℕ) (ids sizes : List ℕ) where
  abbrev rest_plan : Bool → Bool → PlannedPriorities
  rest_plan x y = plan_or (first_refusal ((1 when x) ∷ (28 when y) ∷ (29 when none_works limit (planned_streams ids sizes)) ∷ [])) (least_set limit (planned_streams ids sizes))

  plan_limit : (limit_wrong limit).applies ≡ true → refused_plan 1 ≡ planned limit ids sizes
  unfolding planned first_refusal plan_or
  plan_limit e = sym (ap (λ (x : Bool). rest_plan x (list_wrong ids sizes)) e)

  pub plan_low : limit < 1 → refused_plan 1 ≡ planned limit ids sizes
  plan_low h = plan_limit (ap (λ (b : Bool). b || ltb max_limit limit) (ltb_true h))

  pub plan_high : max_limit < limit → refused_plan 1 ≡ planned limit ids sizes
  plan_high h = plan_limit (or_true (ltb limit 1) (ltb max_limit limit) (ltb_true h))

  module _ (l : 1 ≤ limit) (k : limit ≤ max_limit) where
    inside_limit : (limit_wrong limit).applies ≡ false
    inside_limit = ap₂ ◌||◌ (ltb_false l) (ltb_false k)

    pub plan_list : list_wrong ids sizes ≡ true → refused_plan 28 ≡ planned limit ids sizes
    unfolding planned first_refusal plan_or
    plan_list e = sym (ap₂ rest_plan inside_limit e)

    pub plan_given : list_wrong ids sizes ≡ false → Given limit ids sizes
    plan_given e = let g = good_list ids sizes e in ((l, k), (g.few, (g.same_count, g.sizes_fit)))

    pub plan_least : list_wrong ids sizes ≡ false → least_plan limit (planned_streams ids sizes) ≡ planned limit ids sizes
    unfolding planned first_refusal plan_or least_plan
    plan_least e = sym (ap₂ rest_plan inside_limit e ∙ go (none_works limit (planned_streams ids sizes)))
      where
        go : (x : Bool) → plan_or (first_refusal ((29 when x) ∷ [])) (least_set limit (planned_streams ids sizes)) ≡ (if x then refused_plan 29 else made_plan (least_set limit (planned_streams ids sizes)))
        go true = refl
        go false = refl
