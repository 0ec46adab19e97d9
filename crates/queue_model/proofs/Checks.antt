-- Refusals: what an accepted call says of its checks, and restoring by its checks. Assumes nothing.
use mathlib.Core.Path.{◌≡◌, refl, ap, ◌∙◌}
use mathlib.Core.Bool.{Bool, true, false, ◌||◌}
use mathlib.Core.List.{List, [], ◌∷◌, ◌++◌}
use mathlib.Core.Option.{Option, none, some}
use Prim.Native.Nat.{ℕ, ◌≤◌, ◌<◌}
use native.Mathlib.Omega.{arith}
use lib.Dec.{ltb, leb, nltb→le, nleb→lt}
use Rattle.std.specs.Prelude.{if◌then◌else◌}
use Rattle.queue_model.specs.Logic.{is_nil}
use Rattle.queue_model.specs.Types.{Queue, refused, done, Step, refuse, reply}
use Rattle.queue_model.specs.Refusals.{Check, ◌when◌, first_refusal, refused_or, checked}
use Rattle.queue_model.specs.Image.{Handover}
use Rattle.queue_model.specs.Reader.{read_image}
use Rattle.queue_model.specs.Restore.{restored, record_checks, restore_read, restore_checks, restore}
use Rattle.queue_model.proofs.Tests.{fails}

-- ---- tests that fail

pub or_left : (x y : Bool) → (x || y) ≡ false → x ≡ false
or_left true y e = e
or_left false y e = refl

pub or_right : (x y : Bool) → (x || y) ≡ false → y ≡ false
or_right true y e = let z : ◌≡◌ {A = ℕ} 0 1 = cc in absurd (omega arith)
or_right false y e = e

pub not_less : (a b : ℕ) → ltb a b ≡ false → b ≤ a
not_less a b e = nltb→le a b (fails (ltb a b) e)

pub not_most : (a b : ℕ) → leb a b ≡ false → b < a
not_most a b e = nleb→lt a b (fails (leb a b) e)

pub nil_of : {A : Type 0} (xs : List A) → is_nil xs ≡ true → xs ≡ []
unfolding is_nil
nil_of [] e = refl
nil_of (x ∷ xs) e = let z : ◌≡◌ {A = ℕ} 0 1 = cc in absurd (omega arith)

-- ---- lists of checks

-- No check of a list applies.
abbrev pub Passed : List Check → Type 0
Passed [] = Unit {0}
Passed (c ∷ cs) = (c.applies ≡ false) × Passed cs

pub first_none : (c : Check) (cs : List Check) → first_refusal (c ∷ cs) ≡ none → (c.applies ≡ false) × (first_refusal cs ≡ none)
unfolding first_refusal
first_none c cs e = go c.applies refl e
  where
    go : (b : Bool) → c.applies ≡ b → ◌≡◌ {A = Option ℕ} (if b then some c.number else first_refusal cs) none → (c.applies ≡ false) × (first_refusal cs ≡ none)
    go true f g = let z : ◌≡◌ {A = ℕ} 0 1 = cc in absurd (omega arith)
    go false f g = (f, g)

pub all_passed : (cs : List Check) → first_refusal cs ≡ none → Passed cs
all_passed [] e = tt
all_passed (c ∷ cs) e = let f = first_none c cs e in (f.0, all_passed cs f.1)

-- What holds of a refusal and, where no check applies, of what the call does, holds of the call.
pub checked_either : (R : Step → Type 0) (cs : List Check) (q : Queue) (s : Step) → ((r : ℕ) → R (refuse q r)) → (Passed cs → R s) → R (checked cs q s)
unfolding checked refused_or
checked_either R cs q s f g = go (first_refusal cs) refl
  where
    go : (x : Option ℕ) → first_refusal cs ≡ x → R (refused_or x q s)
    go none e = g (all_passed cs e)
    go (some r) e = f r

pub passed_none : (cs : List Check) → Passed cs → first_refusal cs ≡ none
unfolding first_refusal
passed_none [] p = refl
passed_none (c ∷ cs) p = ap (λ (b : Bool). if b then some c.number else first_refusal cs) p.0 ∙ passed_none cs p.1

-- ---- calls that check

pub checked_past : (cs : List Check) (q : Queue) (s : Step) → Passed cs → checked cs q s ≡ s
unfolding checked
checked_past cs q s p = ap (λ (x : Option ℕ). refused_or x q s) (passed_none cs p)

-- Past all checks but one, that one decides.
pub checked_but : (cs ds : List Check) (n : ℕ) (t : Bool) (q : Queue) (s : Step) → Passed cs → Passed ds → checked (cs ++ ((n when t) ∷ ds)) q s ≡ (if t then refuse q n else s)
unfolding checked refused_or first_refusal
checked_but [] ds n true q s p r = refl
checked_but [] ds n false q s p r = checked_past ds q s r
checked_but (c ∷ cs) ds n t q s p r = ap (λ (b : Bool). refused_or (if b then some c.number else first_refusal (cs ++ ((n when t) ∷ ds))) q s) p.0 ∙ checked_but cs ds n t q s p.1 r

-- A call that checks first is accepted only past its checks.
pub past : (cs : List Check) (q r : Queue) (s : Step) → checked cs q s ≡ reply done [] r → Passed cs × (s ≡ reply done [] r)
unfolding checked refused_or
past cs q r s e = go (first_refusal cs) refl e
  where
    go : (x : Option ℕ) → first_refusal cs ≡ x → refused_or x q s ≡ reply done [] r → Passed cs × (s ≡ reply done [] r)
    go none f g = (all_passed cs f, g)
    go (some k) f g =
        let a : refused k ≡ done = ap (λ (y : Step). y.outcome.answer) g in
        let z : ◌≡◌ {A = ℕ} 0 1 = cc in absurd (omega arith)

-- ---- restoring

pub restore_of : (store now : ℕ) (image : List ℕ) (q : Queue) → restore store now image q ≡ checked (restore_checks store now q) q (restore_read now q (read_image image))
unfolding restore
restore_of store now image q = refl

pub read_none : (now : ℕ) (q : Queue) → restore_read now q none ≡ refuse q 13
unfolding restore_read
read_none now q = refl

pub read_some : (now : ℕ) (q : Queue) (h : Handover) → restore_read now q (some h) ≡ checked (record_checks now q h) q (reply done [] (restored now h q))
unfolding restore_read
read_some now q h = refl
