-- The scheduler's choice: the least entry, by the order of finish times and ids; it depends on which entries there are and not on how they are looked at. Assumes nothing.
use mathlib.Core.Path.{◌≡◌, refl, sym, ap, ap₂, ◌∙◌, subst}
use mathlib.Core.Bool.{Bool, ◌&&◌, ◌||◌}
use mathlib.Core.List.{List, [], ◌∷◌}
use mathlib.Core.Option.{some}
use Prim.Native.Nat.{ℕ, ◌≤◌, ◌<◌}
use native.Mathlib.Omega.{arith}
use lib.Dec.{ltb, eqb}
use Rattle.std.specs.Prelude.{if◌then◌else◌}
use Rattle.queue_model.specs.Types.{Active}
use Rattle.queue_model.specs.Scheduler.{active_key, find_active, comes_before, earlier, least, least_of}
use Rattle.queue_model.proofs.Tests.{ltb_true, ltb_false, eqb_true, eqb_false, less, same, more, tri}
use Rattle.queue_model.proofs.Table.{find_nil, Every, every_find, Rising, every_own}

-- ---- the order of entries

-- One entry is chosen before another, or is the other's like.
pub data AtMost (a b : Active) : Type 0 where
  sooner : a.finish < b.finish → AtMost a b
  level : a.finish ≡ b.finish → a.stream_id ≤ b.stream_id → AtMost a b

pub at_most_refl : (a : Active) → AtMost a a
at_most_refl a = level refl (omega arith)

pub at_most_trans : (a b c : Active) → AtMost a b → AtMost b c → AtMost a c
at_most_trans a b c (sooner x) (sooner y) = sooner (omega arith)
at_most_trans a b c (sooner x) (level y z) = sooner (omega arith)
at_most_trans a b c (level x w) (sooner y) = sooner (omega arith)
at_most_trans a b c (level x w) (level y z) = level (omega arith) (omega arith)

at_most_same : (a b : Active) → AtMost a b → AtMost b a → a.stream_id ≡ b.stream_id
at_most_same a b (sooner x) (sooner y) = absurd (omega arith)
at_most_same a b (sooner x) (level y z) = absurd (omega arith)
at_most_same a b (level x w) (sooner y) = absurd (omega arith)
at_most_same a b (level x w) (level y z) = omega arith

-- ---- the least entry

-- The earlier of two is one of them, and at most the other.
data Picked (a b : Active) : Type 0 where
  left : earlier a b ≡ a → AtMost a b → Picked a b
  right : earlier a b ≡ b → AtMost b a → Picked a b

picked : (a b : Active) → Picked a b
unfolding earlier comes_before
picked a b =
    let e : Bool → Active = λ t. if t then a else b in
    elim (tri a.finish b.finish) [
      | less l ↦ left (ap (λ (x : Bool). e (x || (eqb a.finish b.finish && ltb a.stream_id b.stream_id))) (ltb_true l)) (sooner l)
      | more l ↦ (let h : b.finish ≤ a.finish = omega arith in
          let n : a.finish ≡ b.finish → ⊥ = λ g. omega arith in
          right (ap₂ (λ (x y : Bool). e (x || (y && ltb a.stream_id b.stream_id))) (ltb_false h) (eqb_false n)) (sooner l))
      | same g ↦ (let h : b.finish ≤ a.finish = omega arith in
          let c : earlier a b ≡ e (ltb a.stream_id b.stream_id) = ap₂ (λ (x y : Bool). e (x || (y && ltb a.stream_id b.stream_id))) (ltb_false h) (eqb_true g) in
          elim (tri a.stream_id b.stream_id) [
            | less l ↦ left (c ∙ ap e (ltb_true l)) (level g (omega arith))
            | same i ↦ (let m : b.stream_id ≤ a.stream_id = omega arith in right (c ∙ ap e (ltb_false m)) (level (sym g) m))
            | more l ↦ (let m : b.stream_id ≤ a.stream_id = omega arith in right (c ∙ ap e (ltb_false m)) (level (sym g) m))
          ])
    ]

earlier_left : (a b : Active) → AtMost (earlier a b) a
earlier_left a b = elim (picked a b) [
  | left e h ↦ subst (λ (x : Active). AtMost x a) (sym e) (at_most_refl a)
  | right e h ↦ subst (λ (x : Active). AtMost x a) (sym e) h
]

earlier_right : (a b : Active) → AtMost (earlier a b) b
earlier_right a b = elim (picked a b) [
  | left e h ↦ subst (λ (x : Active). AtMost x b) (sym e) h
  | right e h ↦ subst (λ (x : Active). AtMost x b) (sym e) (at_most_refl b)
]

-- What holds of two entries holds of the earlier, and so of the least.
earlier_in : (P : Active → Type 0) (a b : Active) → P a → P b → P (earlier a b)
earlier_in P a b x y = elim (picked a b) [ left e h ↦ subst P (sym e) x | right e h ↦ subst P (sym e) y ]

pub least_in_lem : (P : Active → Type 0) (a : Active) (as' : List Active) → P a → Every P as' → P (least a as')
unfolding least
least_in_lem P a [] x e = x
least_in_lem P a (b ∷ bs) x e = least_in_lem P (earlier a b) bs (earlier_in P a b x e.0) e.1

pub least_below : (a : Active) (as' : List Active) → Every (AtMost (least a as')) (a ∷ as')
unfolding least
least_below a [] = (at_most_refl a, tt)
least_below a (b ∷ bs) =
    let ih = least_below (earlier a b) bs in
    let l : Active = least (earlier a b) bs in
    (at_most_trans l (earlier a b) a ih.0 (earlier_left a b), (at_most_trans l (earlier a b) b ih.0 (earlier_right a b), ih.1))

-- ---- the least entry of a table

-- An entry of the table that is at most every other is the one that is chosen, in whatever order a port keeps its rows and looks at them.
pub least_is : (x : Active) (as' : List Active) → Rising active_key as' → find_active x.stream_id as' ≡ some x → ((k : ℕ) (y : Active) → find_active k as' ≡ some y → AtMost x y) → least_of as' ≡ some x
unfolding least_of
least_is x [] r f h = let z : ◌≡◌ {A = ℕ} 0 1 = cc (find_nil active_key x.stream_id) in absurd (omega arith)
least_is x (a ∷ as') r f h = one (least a as') (least_in_lem (λ (b : Active). find_active b.stream_id (a ∷ as') ≡ some b) a as' own.0 own.1) (least_below a as')
  where
    own : Every (λ (b : Active). find_active b.stream_id (a ∷ as') ≡ some b) (a ∷ as')
    own = every_own active_key (a ∷ as') r

    one : (y : Active) → find_active y.stream_id (a ∷ as') ≡ some y → Every (AtMost y) (a ∷ as') → some y ≡ some x
    one y g below =
        let yx : AtMost y x = every_find active_key (AtMost y) x.stream_id x (a ∷ as') below f in
        let i : y.stream_id ≡ x.stream_id = at_most_same y x yx (h y.stream_id y g) in
        sym g ∙ ap (λ (k : ℕ). find_active k (a ∷ as')) i ∙ f
