-- The answer is the request's: the refusals in their order, the least working set, and 29 exactly where none works. Assumes nothing.
use mathlib.Core.Path.{◌≡◌, refl, sym, ap, ap₂, ◌∙◌, subst}
use mathlib.Core.Logic.{◌↔◌}
use mathlib.Core.Bool.{Bool, true, false, not, ◌||◌}
use mathlib.Core.List.{List, [], ◌∷◌}
use mathlib.Core.Option.{Option, none, some, get_or}
use Prim.Native.Nat.{ℕ, ◌≤◌}
use native.Mathlib.Omega.{arith}
use lib.Dec.{eqb, ltb, eqb→eq}
use lib.ListN.{length}
use borrow.Author.Tests.{not-false}
use Rattle.queue_model.specs.Logic.{outside, any, is_nil}
use Rattle.queue_model.specs.Refusals.{limit_wrong, ◌when◌, first_refusal, max_payload}
use Rattle.queue_model.proofs.Tests.{holds}
use Rattle.queue_model.proofs.Checks.{or_left, or_right, not_less}
use Rattle.priority_plan.specs.PlannedPriorities.{PlannedPriorities}
use Rattle.queue_streams.specs.Answers.{call_number}
use Rattle.queue_streams.specs.Call.{Accepted, Refused}
use Rattle.priority_plan.specs.Works.{PlannedStream, planned_streams, All, Works, max_priority}
use Rattle.priority_plan.specs.Least.{least_set, max_limit}
use Rattle.priority_plan.specs.Lists.{named_twice, size_outside, list_wrong, max_planned}
use Rattle.priority_plan.specs.Plan.{none_works, plan_checks, refused_plan, made_plan, plan_or, planned}
use Rattle.priority_plan.specs.Request.{Right, least_given, none_given, Request13Answer}
use Rattle.priority_plan.proofs.LeastSet.{GoodLimit, GoodStream, least_count, least_works, working_above, none_works_right}

pub good_limit : (limit : ℕ) → (limit_wrong limit).applies ≡ false → GoodLimit limit
good_limit limit e = (not_less limit 1 (or_left (ltb limit 1) (ltb max_limit limit) e), not_less max_limit limit (or_right (ltb limit 1) (ltb max_limit limit) e))

pub good_streams : (ids sizes : List ℕ) → size_outside sizes ≡ false → All GoodStream (planned_streams ids sizes)
unfolding planned_streams size_outside any
good_streams [] [] e = tt
good_streams [] (n ∷ ns) e = tt
good_streams (i ∷ is) [] e = tt
good_streams (i ∷ is) (n ∷ ns) e =
    (not_less n 1 (or_left (ltb n 1) (ltb max_payload n) (or_left (outside 1 max_payload n) (any (outside 1 max_payload) ns) e)), good_streams is ns (or_right (outside 1 max_payload n) (any (outside 1 max_payload) ns) e))

-- A list that is not refused.
pub record GoodList (ids sizes : List ℕ) : Type 0 where
  pub some_id : is_nil ids ≡ false
  pub few : length ids ≤ max_planned
  pub same_count : length ids ≡ length sizes
  pub distinct : named_twice ids ≡ false
  pub sizes_fit : size_outside sizes ≡ false

pub good_list : (ids sizes : List ℕ) → list_wrong ids sizes ≡ false → GoodList ids sizes
unfolding list_wrong
good_list ids sizes e =
    let x₁ : Bool = is_nil ids in let x₂ : Bool = ltb max_planned (length ids) in let x₃ : Bool = not (eqb (length ids) (length sizes)) in
    let x₄ : Bool = named_twice ids in let x₅ : Bool = size_outside sizes in
    let e₂ : (x₂ || (x₃ || (x₄ || x₅))) ≡ false = or_right x₁ (x₂ || (x₃ || (x₄ || x₅))) e in
    let e₃ : (x₃ || (x₄ || x₅)) ≡ false = or_right x₂ (x₃ || (x₄ || x₅)) e₂ in
    let e₄ : (x₄ || x₅) ≡ false = or_right x₃ (x₄ || x₅) e₃ in
    record {
      some_id = or_left x₁ (x₂ || (x₃ || (x₄ || x₅))) e;
      few = not_less max_planned (length ids) (or_left x₂ (x₃ || (x₄ || x₅)) e₂);
      same_count = eqb→eq (length ids) (length sizes) (holds (eqb (length ids) (length sizes)) (not-false (eqb (length ids) (length sizes)) (or_left x₃ (x₄ || x₅) e₃)));
      distinct = or_left x₄ x₅ e₄;
      sizes_fit = or_right x₄ x₅ e₄;
    }

-- No more streams than ids.
pub listed_few : (is ns : List ℕ) → length (planned_streams is ns) ≤ length is
unfolding planned_streams
listed_few [] [] = omega arith
listed_few [] (n ∷ ns) = omega arith
listed_few (i ∷ is) [] = omega arith
listed_few (i ∷ is) (n ∷ ns) = let ih = listed_few is ns in omega arith

-- The answer by its three checks.
abbrev pub by_checks : Bool → Bool → Bool → List ℕ → PlannedPriorities
by_checks true y z ps = refused_plan 1
by_checks false true z ps = refused_plan 28
by_checks false false true ps = refused_plan 29
by_checks false false false ps = made_plan ps

pub planned_is : (limit : ℕ) (ids sizes : List ℕ) → planned limit ids sizes ≡ by_checks (limit_wrong limit).applies (list_wrong ids sizes) (none_works limit (planned_streams ids sizes)) (least_set limit (planned_streams ids sizes))
unfolding planned plan_or first_refusal
planned_is limit ids sizes = go (limit_wrong limit).applies (list_wrong ids sizes) (none_works limit (planned_streams ids sizes))
  where
    go : (x y z : Bool) → plan_or (first_refusal ((1 when x) ∷ (28 when y) ∷ (29 when z) ∷ [])) (least_set limit (planned_streams ids sizes)) ≡ by_checks x y z (least_set limit (planned_streams ids sizes))
    go true y z = refl
    go false true z = refl
    go false false true = refl
    go false false false = refl

number_is : (limit : ℕ) (ids sizes : List ℕ) → call_number (planned limit ids sizes).answer ≡ get_or (first_refusal (plan_checks limit ids sizes)) 0
unfolding planned plan_or
number_is limit ids sizes = go (first_refusal (plan_checks limit ids sizes))
  where
    go : (x : Option ℕ) → call_number (plan_or x (least_set limit (planned_streams ids sizes))).answer ≡ get_or x 0
    go none = refl
    go (some n) = refl

-- 29 exactly where no set works.
exactly : (limit : ℕ) (hs : List PlannedStream) (r : PlannedPriorities) → Right limit hs r → (r ≡ refused_plan 29) ↔ ((ps : List ℕ) → Works limit hs ps → ⊥)
exactly limit hs r (least_given ps l e) = ((λ f. absurd (never (sym (ap (λ (x : PlannedPriorities). x.answer) f) ∙ ap (λ (x : PlannedPriorities). x.answer) e))), (λ n. absurd (n ps l.works)))
  where
    never : Refused 29 ≡ (Accepted 0) → ⊥
    never z = let y : ◌≡◌ {A = ℕ} 0 1 = cc in omega arith
exactly limit hs r (none_given n e) = ((λ f. n), (λ m. e))

-- Request 13/13 on the answer.
pub request13_answer : Request13Answer
unfolding Request13Answer none_works
request13_answer limit ids sizes = record {
  answer_number = number_is limit ids sizes;
  wrong_limit = λ e. is ∙ ap (λ (x : Bool). by_checks x (list_wrong ids sizes) (none_works limit hs) ls) e;
  wrong_list = λ e f. is ∙ ap₂ (λ (x y : Bool). by_checks x y (none_works limit hs) ls) e f;
  right = λ e f. judged e f;
  none_exactly = λ e f. exactly limit hs (planned limit ids sizes) (judged e f);
}
  where
    hs : List PlannedStream
    hs = planned_streams ids sizes

    ls : List ℕ
    ls = least_set limit hs

    is : planned limit ids sizes ≡ by_checks (limit_wrong limit).applies (list_wrong ids sizes) (none_works limit hs) ls
    is = planned_is limit ids sizes

    go : (b : Bool) → any (ltb max_priority) ls ≡ b → GoodLimit limit → All GoodStream hs → planned limit ids sizes ≡ by_checks false false (any (ltb max_priority) ls) ls → Right limit hs (planned limit ids sizes)
    go true e l g r = none_given (none_works_right limit hs l.1 e) (r ∙ ap (λ (b : Bool). by_checks false false b ls) e)
    go false e l g r = least_given ls (record { works = least_works limit hs l g e; least = λ qs w. working_above limit hs qs l.1 w }) (r ∙ ap (λ (b : Bool). by_checks false false b ls) e)

    judged : (limit_wrong limit).applies ≡ false → list_wrong ids sizes ≡ false → Right limit hs (planned limit ids sizes)
    judged e f = go (any (ltb max_priority) ls) refl (good_limit limit e) (good_streams ids sizes (good_list ids sizes f).sizes_fit) (is ∙ ap₂ (λ (x y : Bool). by_checks x y (none_works limit hs) ls) e f)

-- The places are enough.
pub planned_few : (limit : ℕ) (ids sizes : List ℕ) (r : PlannedPriorities) → r ≡ planned limit ids sizes → r.count ≤ max_planned
planned_few limit ids sizes r e =
    subst (λ (x : PlannedPriorities). x.count ≤ max_planned) (sym (e ∙ planned_is limit ids sizes)) (go (limit_wrong limit).applies (list_wrong ids sizes) refl (none_works limit hs))
  where
    hs : List PlannedStream
    hs = planned_streams ids sizes

    go : (x y : Bool) → list_wrong ids sizes ≡ y → (z : Bool) → (by_checks x y z (least_set limit hs)).count ≤ max_planned
    go true y f z = omega arith
    go false true f z = omega arith
    go false false f true = omega arith
    go false false f false = let g = good_list ids sizes f in let a = g.few in let b = listed_few ids sizes in let c = least_count limit hs in omega arith
