-- The least set works, no working set has a smaller priority for any stream, and where it passes 65,535 none works. Assumes nothing.
use mathlib.Core.Path.{◌≡◌, refl, sym, ap, ◌∙◌, subst}
use mathlib.Core.Bool.{Bool, true, false, ◌&&◌, ◌||◌}
use mathlib.Core.List.{List, [], ◌∷◌}
use Prim.Native.Nat.{ℕ, suc, ◌*◌, ◌/◌, ◌≤◌, ◌<◌, max}
use native.Mathlib.Nat.{mul_comm, mul-le-mul_left, div-lt_iff_lt-mul, le-div_iff_mul-le, div-mul-le_self, div-le_self}
use native.Mathlib.Omega.{arith}
use lib.Dec.{eqb, ltb, ltb→lt, eqb→eq}
use lib.ListN.{length}
use Rattle.std.specs.Prelude.{if◌then◌else◌}
use Rattle.queue_model.specs.Logic.{any}
use Rattle.queue_model.specs.Types.{Active}
use Rattle.queue_model.specs.Scheduler.{cost, scheduled, comes_before, saturating}
use Rattle.queue_model.proofs.Tests.{holds, ltb_true, ltb_false, eqb_true, less, same, more, tri}
use Rattle.queue_model.proofs.Checks.{or_left, or_right, not_less}
use Rattle.priority_plan.specs.Works.{PlannedStream, first_entry, entries, All, InOrder, IsPriority, Works, AtMostEach, max_priority}
use Rattle.priority_plan.specs.Least.{bound, least_priority, least_set, max_limit, byte_cost, full_cost, no_bound}

-- ---- division

-- A quotient is below b exactly where the divisor is above the quotient by b.
pub under : (c p b : ℕ) → 0 < p → 0 < b → c / p < b → c / b < p
under c p b hp hb h = (div-lt_iff_lt-mul hb).1 (subst (λ (x : ℕ). c < x) (mul_comm b p) ((div-lt_iff_lt-mul hp).0 h))

-- A larger divisor gives a smaller quotient.
pub quotient_falls : (c p q : ℕ) → 0 < p → p ≤ q → c / q ≤ c / p
quotient_falls c p q hp h =
    let a : c / q * p ≤ c / q * q = mul-le-mul_left (c / q) h in
    let b : c / q * q ≤ c = div-mul-le_self c q in
    (le-div_iff_mul-le hp).1 (omega arith)

-- ---- finish times

-- A limit and a size as the request allows them.
abbrev pub GoodLimit : ℕ → Type 0
GoodLimit limit = (1 ≤ limit) × (limit ≤ max_limit)

abbrev pub GoodStream : PlannedStream → Type 0
GoodStream h = 1 ≤ h.size

pub full_fits : (limit size : ℕ) → limit ≤ max_limit → full_cost limit size < no_bound
full_fits limit size h = omega arith

pub full_some : (limit size : ℕ) → 1 ≤ limit → 1 ≤ size → byte_cost ≤ full_cost limit size
full_some limit size h k = omega arith

pub finish_is : (limit : ℕ) (h : PlannedStream) (p : ℕ) → limit ≤ max_limit → 1 ≤ p → (first_entry limit h p).finish ≡ full_cost limit h.size / p
unfolding first_entry scheduled cost
finish_is limit h p l k =
    let c : ℕ = full_cost limit h.size in
    let a : saturating (full_cost limit h.size) ≡ full_cost limit h.size = omega arith in
    let m : max p 1 ≡ p = omega arith in
    let d : full_cost limit h.size / p ≤ full_cost limit h.size = div-le_self c p in
    let e : saturating (full_cost limit h.size) / max p 1 ≡ full_cost limit h.size / p = ap (λ (x : ℕ). x / max p 1) a ∙ ap (λ (x : ℕ). full_cost limit h.size / x) m in
    omega arith

pub entry_id : (limit : ℕ) (h : PlannedStream) (p : ℕ) → (first_entry limit h p).stream_id ≡ h.stream_id
unfolding first_entry scheduled
entry_id limit h p = refl

pub finish_some : (limit : ℕ) (h : PlannedStream) (p : ℕ) → GoodLimit limit → GoodStream h → IsPriority p → 0 < (first_entry limit h p).finish
finish_some limit h p l g a =
    let l₁ = l.0 in let l₂ = l.1 in let a₁ = a.0 in let a₂ = a.1 in
    let e = finish_is limit h p l₂ a₁ in
    let f = full_some limit h.size l₁ g in
    let d : 1 ≤ full_cost limit h.size / p = (le-div_iff_mul-le a₁).1 (omega arith) in
    omega arith

-- ---- the order of entries

pub data Before (a b : Active) : Type 0 where
  sooner : a.finish < b.finish → Before a b
  level : a.finish ≡ b.finish → a.stream_id < b.stream_id → Before a b

pub before : (a b : Active) → comes_before a b ≡ true → Before a b
unfolding comes_before
before a b e = go (ltb a.finish b.finish) refl (eqb a.finish b.finish) refl (ltb a.stream_id b.stream_id) refl e
  where
    go : (x : Bool) → ltb a.finish b.finish ≡ x → (y : Bool) → eqb a.finish b.finish ≡ y → (z : Bool) → ltb a.stream_id b.stream_id ≡ z → (x || (y && z)) ≡ true → Before a b
    go true f y g z h t = sooner (ltb→lt _ _ (holds _ f))
    go false f true g true h t = level (eqb→eq _ _ (holds _ g)) (ltb→lt _ _ (holds _ h))
    go false f true g false h t = absurd (holds false t)
    go false f false g z h t = absurd (holds false t)

pub comes : (a b : Active) → Before a b → comes_before a b ≡ true
unfolding comes_before
comes a b (sooner l) = ap (λ (x : Bool). x || (eqb a.finish b.finish && ltb a.stream_id b.stream_id)) (ltb_true l)
comes a b (level e l) =
    let h : b.finish ≤ a.finish = omega arith in
    ap (λ (x : Bool). x || (eqb a.finish b.finish && ltb a.stream_id b.stream_id)) (ltb_false h)
    ∙ ap (λ (x : Bool). x && ltb a.stream_id b.stream_id) (eqb_true e)
    ∙ ltb_true l

pub before_trans : (a b c : Active) → Before a b → Before b c → Before a c
before_trans a b c (sooner x) (sooner y) = sooner (omega arith)
before_trans a b c (sooner x) (level y z) = sooner (omega arith)
before_trans a b c (level x w) (sooner y) = sooner (omega arith)
before_trans a b c (level x w) (level y z) = level (omega arith) (omega arith)

-- An entry comes before another exactly where its finish time is below the other's bound.
abbrev limit_for : ℕ → Active → ℕ
limit_for i b = if ltb i b.stream_id then suc b.finish else b.finish

below_limit : (a b : Active) → Before a b → a.finish < limit_for a.stream_id b
below_limit a b r = go (ltb a.stream_id b.stream_id) refl r
  where
    go : (x : Bool) → ltb a.stream_id b.stream_id ≡ x → Before a b → a.finish < (if x then suc b.finish else b.finish)
    go true e (sooner l) = omega arith
    go true e (level f l) = omega arith
    go false e (sooner l) = l
    go false e (level f l) = absurd (holds false (sym e ∙ ltb_true l))

limit_below : (a b : Active) → a.finish < limit_for a.stream_id b → Before a b
limit_below a b r = go (ltb a.stream_id b.stream_id) refl r
  where
    go : (x : Bool) → ltb a.stream_id b.stream_id ≡ x → a.finish < (if x then suc b.finish else b.finish) → Before a b
    go false e l = sooner l
    go true e l = elim (tri a.finish b.finish) [
      | less k ↦ sooner k
      | same k ↦ level k (ltb→lt _ _ (holds _ e))
      | more k ↦ absurd (omega arith)
    ]

-- ---- the least set works

-- Each entry comes before the next.
abbrev First : Active → List Active → Type 0
First a [] = Unit {0}
First a (b ∷ bs) = Before a b

abbrev Chain : List Active → Type 0
Chain [] = Unit {0}
Chain (a ∷ as') = First a as' × Chain as'

all_after : (a b : Active) (as' : List Active) → Before a b → All (λ (c : Active). comes_before b c ≡ true) as' → All (λ (c : Active). comes_before a c ≡ true) as'
all_after a b [] l h = tt
all_after a b (c ∷ cs) l h = (comes a c (before_trans a b c l (before b c h.0)), all_after a b cs l h.1)

in_order : (as' : List Active) → Chain as' → InOrder as'
in_order [] c = tt
in_order (a ∷ []) c = (tt, tt)
in_order (a ∷ b ∷ bs) c = let r = in_order (b ∷ bs) c.1 in ((comes a b c.0, all_after a b bs c.0 r.0), r)

pub least_count : (limit : ℕ) (hs : List PlannedStream) → length (least_set limit hs) ≡ length hs
unfolding least_set
least_count limit [] = refl
least_count limit (h ∷ hs) = ap suc (least_count limit hs)

least_positive : (limit size b : ℕ) → 1 ≤ least_priority limit size b
unfolding least_priority
least_positive limit size b = omega arith

-- The bound is above 0, and an entry below it comes before the next.
bound_some : (limit id : ℕ) (hs : List PlannedStream) (ps : List ℕ) → GoodLimit limit → All GoodStream hs → All IsPriority ps → 0 < bound limit id hs ps
unfolding bound
bound_some limit id [] ps l g a = omega arith
bound_some limit id (h ∷ hs) [] l g a = omega arith
bound_some limit id (h ∷ hs) (p ∷ ps) l g a = let f = finish_some limit h p l g.0 a.0 in go (ltb id h.stream_id) f
  where
    go : (x : Bool) → 0 < (first_entry limit h p).finish → 0 < (if x then suc (first_entry limit h p).finish else (first_entry limit h p).finish)
    go true f = omega arith
    go false f = omega arith

first_below : (limit : ℕ) (h : PlannedStream) (p : ℕ) (hs : List PlannedStream) (ps : List ℕ) → (first_entry limit h p).finish < bound limit h.stream_id hs ps → First (first_entry limit h p) (entries limit hs ps)
unfolding bound entries
first_below limit h p [] [] b = tt
first_below limit h p [] (q ∷ ps) b = tt
first_below limit h p (k ∷ hs) [] b = tt
first_below limit h p (k ∷ hs) (q ∷ ps) b =
    limit_below (first_entry limit h p) (first_entry limit k q)
    (subst (λ (i : ℕ). (first_entry limit h p).finish < limit_for i (first_entry limit k q)) (sym (entry_id limit h p))
    (subst (λ (i : ℕ). (first_entry limit h p).finish < (if ltb h.stream_id i then suc (first_entry limit k q).finish else (first_entry limit k q).finish)) (sym (entry_id limit k q)) b))

below_first : (limit : ℕ) (h : PlannedStream) (p : ℕ) (hs : List PlannedStream) (ps : List ℕ) → limit ≤ max_limit → 1 ≤ p → First (first_entry limit h p) (entries limit hs ps) → (first_entry limit h p).finish < bound limit h.stream_id hs ps
unfolding bound entries
below_first limit h p [] ps l k b = let e = finish_is limit h p l k in let d = div-le_self (full_cost limit h.size) p in let f = full_fits limit h.size l in omega arith
below_first limit h p (j ∷ hs) [] l k b = let e = finish_is limit h p l k in let d = div-le_self (full_cost limit h.size) p in let f = full_fits limit h.size l in omega arith
below_first limit h p (j ∷ hs) (q ∷ ps) l k b =
    subst (λ (i : ℕ). (first_entry limit h p).finish < (if ltb h.stream_id i then suc (first_entry limit j q).finish else (first_entry limit j q).finish)) (entry_id limit j q)
    (subst (λ (i : ℕ). (first_entry limit h p).finish < limit_for i (first_entry limit j q)) (entry_id limit h p) (below_limit (first_entry limit h p) (first_entry limit j q) b))

least_allowed : (limit : ℕ) (hs : List PlannedStream) → any (ltb max_priority) (least_set limit hs) ≡ false → All IsPriority (least_set limit hs)
unfolding least_set any
least_allowed limit [] e = tt
least_allowed limit (h ∷ hs) e =
    let p : ℕ = least_priority limit h.size (bound limit h.stream_id hs (least_set limit hs)) in (
      (least_positive limit h.size (bound limit h.stream_id hs (least_set limit hs)), not_less max_priority p (or_left (ltb max_priority p) (any (ltb max_priority) (least_set limit hs)) e)),
      least_allowed limit hs (or_right (ltb max_priority p) (any (ltb max_priority) (least_set limit hs)) e),
    )

priority_fits : (limit : ℕ) (h : PlannedStream) (b : ℕ) → limit ≤ max_limit → 0 < b → (first_entry limit h (least_priority limit h.size b)).finish < b
unfolding least_priority
priority_fits limit h b l z =
    let p : ℕ = least_priority limit h.size b in
    let e = finish_is limit h p l (least_positive limit h.size b) in
    let k : full_cost limit h.size / b < least_priority limit h.size b = omega arith in
    let d : full_cost limit h.size / least_priority limit h.size b < b = under (full_cost limit h.size) b p z (least_positive limit h.size b) k in
    omega arith

least_chain : (limit : ℕ) (hs : List PlannedStream) → GoodLimit limit → All GoodStream hs → All IsPriority (least_set limit hs) → Chain (entries limit hs (least_set limit hs))
unfolding least_set entries
least_chain limit [] l g a = tt
least_chain limit (h ∷ hs) l g a =
    let ps : List ℕ = least_set limit hs in
    let b : ℕ = bound limit h.stream_id hs ps in
    let p : ℕ = least_priority limit h.size b in
    (first_below limit h p hs ps (priority_fits limit h b l.1 (bound_some limit h.stream_id hs ps l g.1 a.1)), least_chain limit hs l g.1 a.1)

pub least_works : (limit : ℕ) (hs : List PlannedStream) → GoodLimit limit → All GoodStream hs → any (ltb max_priority) (least_set limit hs) ≡ false → Works limit hs (least_set limit hs)
least_works limit hs l g e =
    let a = least_allowed limit hs e in
    record { count = least_count limit hs; allowed = a; order = in_order (entries limit hs (least_set limit hs)) (least_chain limit hs l g a) }

-- ---- and is the least

-- The bound falls where priorities rise.
bound_falls : (limit id : ℕ) (hs : List PlannedStream) (ps qs : List ℕ) → limit ≤ max_limit → All (λ (p : ℕ). 1 ≤ p) ps → length ps ≡ length hs → length qs ≡ length hs → AtMostEach ps qs → bound limit id hs qs ≤ bound limit id hs ps
unfolding bound
bound_falls limit id [] ps qs l a m n h = omega arith
bound_falls limit id (k ∷ hs) [] qs l a m n h = absurd (omega arith)
bound_falls limit id (k ∷ hs) (p ∷ ps) [] l a m n h = absurd h
bound_falls limit id (k ∷ hs) (p ∷ ps) (q ∷ qs) l a m n h =
    let p₁ = a.0 in let pq = h.0 in
    let e₁ = finish_is limit k p l p₁ in let e₂ = finish_is limit k q l (omega arith) in
    let f : full_cost limit k.size / q ≤ full_cost limit k.size / p = quotient_falls (full_cost limit k.size) p q p₁ pq in
    go (ltb id k.stream_id) (omega arith)
  where
    go : (x : Bool) → (first_entry limit k q).finish ≤ (first_entry limit k p).finish → (if x then suc (first_entry limit k q).finish else (first_entry limit k q).finish) ≤ (if x then suc (first_entry limit k p).finish else (first_entry limit k p).finish)
    go true f = omega arith
    go false f = omega arith

all_positive : (limit : ℕ) (hs : List PlannedStream) → All (λ (p : ℕ). 1 ≤ p) (least_set limit hs)
unfolding least_set
all_positive limit [] = tt
all_positive limit (h ∷ hs) = (least_positive limit h.size (bound limit h.stream_id hs (least_set limit hs)), all_positive limit hs)

-- The first entry of an order comes before the next.
order_first : (a : Active) (as' : List Active) → All (λ (b : Active). comes_before a b ≡ true) as' → First a as'
order_first a [] h = tt
order_first a (b ∷ bs) h = before a b h.0

priority_least : (limit : ℕ) (h : PlannedStream) (q b : ℕ) → limit ≤ max_limit → 1 ≤ q → (first_entry limit h q).finish < b → least_priority limit h.size b ≤ q
unfolding least_priority
priority_least limit h q b l k z =
    let e = finish_is limit h q l k in
    let d : full_cost limit h.size / q < b = omega arith in
    let f : full_cost limit h.size / b < q = under (full_cost limit h.size) q b k (omega arith) d in
    omega arith

least_below : (limit : ℕ) (hs : List PlannedStream) (qs : List ℕ) → limit ≤ max_limit → length qs ≡ length hs → All IsPriority qs → InOrder (entries limit hs qs) → AtMostEach (least_set limit hs) qs
unfolding least_set entries
least_below limit [] qs l n a o = tt
least_below limit (h ∷ hs) [] l n a o = absurd (omega arith)
least_below limit (h ∷ hs) (q ∷ qs) l n a o =
    let ps : List ℕ = least_set limit hs in
    let m : length qs ≡ length hs = omega arith in
    let ih : AtMostEach (least_set limit hs) qs = least_below limit hs qs l m a.1 o.1 in
    let f : (first_entry limit h q).finish < bound limit h.stream_id hs qs = below_first limit h q hs qs l a.0.0 (order_first (first_entry limit h q) (entries limit hs qs) o.0) in
    let g : bound limit h.stream_id hs qs ≤ bound limit h.stream_id hs (least_set limit hs) = bound_falls limit h.stream_id hs ps qs l (all_positive limit hs) (least_count limit hs) m ih in
    (priority_least limit h q (bound limit h.stream_id hs ps) l a.0.0 (omega arith), ih)

pub working_above : (limit : ℕ) (hs : List PlannedStream) (qs : List ℕ) → limit ≤ max_limit → Works limit hs qs → AtMostEach (least_set limit hs) qs
working_above limit hs qs l w = least_below limit hs qs l w.count w.allowed w.order

-- ---- 29

none_above : (ps qs : List ℕ) → AtMostEach ps qs → All IsPriority qs → any (ltb max_priority) ps ≡ false
unfolding any
none_above [] qs h a = refl
none_above (p ∷ ps) [] h a = absurd h
none_above (p ∷ ps) (q ∷ qs) h a =
    let u = h.0 in let v = a.0.1 in let k : p ≤ max_priority = omega arith in
    ap (λ (x : Bool). x || any (ltb max_priority) ps) (ltb_false k) ∙ none_above ps qs h.1 a.1

pub none_works_right : (limit : ℕ) (hs : List PlannedStream) → limit ≤ max_limit → any (ltb max_priority) (least_set limit hs) ≡ true → (qs : List ℕ) → Works limit hs qs → ⊥
none_works_right limit hs l e qs w = holds false (sym (none_above (least_set limit hs) qs (working_above limit hs qs l w) w.allowed) ∙ e)

-- ---- the answer
