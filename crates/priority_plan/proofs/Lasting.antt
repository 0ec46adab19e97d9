-- Messages that have not expired, as a test on the queue and stream by stream. Assumes nothing.
use mathlib.Core.Path.{◌≡◌, refl, ap, ap₂}
use mathlib.Core.Bool.{Bool, true, false, not, ◌||◌}
use mathlib.Core.List.{List, [], ◌∷◌}
use Prim.Native.Nat.{ℕ}
use borrow.Author.Tests.{not-true}
use Rattle.queue_model.specs.Logic.{any}
use Rattle.queue_model.specs.Types.{Item, Stream, Queue, expired}
use Rattle.queue_model.specs.FairTurns.{none_expired}
use Rattle.queue_model.proofs.Checks.{or_left, or_right}
use Rattle.priority_plan.specs.Works.{All}

-- No waiting message is expired at this time.
abbrev pub NoneExpired : ℕ → List Stream → Type 0
NoneExpired now ss = All (λ (s : Stream). All (λ (i : Item). expired now i.expires_at ≡ false) s.items) ss

-- A test that no element passes.
none_pass : {A : Type 0} (P : A → Type 0) (test : A → Bool) → ((x : A) → test x ≡ false → P x) → (xs : List A) → any test xs ≡ false → All P xs
unfolding any
none_pass P test f [] e = tt
none_pass P test f (x ∷ xs) e = (f x (or_left (test x) (any test xs) e), none_pass P test f xs (or_right (test x) (any test xs) e))

passes_none : {A : Type 0} (P : A → Type 0) (test : A → Bool) → ((x : A) → P x → test x ≡ false) → (xs : List A) → All P xs → any test xs ≡ false
unfolding any
passes_none P test f [] a = refl
passes_none P test f (x ∷ xs) a = ap₂ ◌||◌ (f x a.0) (passes_none P test f xs a.1)

module _ (now : ℕ) (q : Queue) where
  abbrev item_expired : Item → Bool
  item_expired i = expired now i.expires_at

  abbrev Fresh : Item → Type 0
  Fresh i = expired now i.expires_at ≡ false

  abbrev some_expired : Stream → Bool
  some_expired s = any item_expired s.items

  abbrev AllFresh : Stream → Type 0
  AllFresh s = All Fresh s.items

  pub each_lasts : none_expired now q ≡ true → NoneExpired now q.streams
  unfolding none_expired
  each_lasts e = none_pass AllFresh some_expired (λ s. none_pass Fresh item_expired (λ i g. g) s.items) q.streams (not-true (any some_expired q.streams) e)

  pub none_expires : NoneExpired now q.streams → none_expired now q ≡ true
  unfolding none_expired
  none_expires a = ap not (passes_none AllFresh some_expired (λ s. passes_none Fresh item_expired (λ i g. g) s.items) q.streams a)

-- At each of the times for which there is a property.
pub all_last : {A : Type 0} (at : A → ℕ) (q : Queue) (xs : List A) → All (λ (x : A). none_expired (at x) q ≡ true) xs → All (λ (x : A). NoneExpired (at x) q.streams) xs
all_last at q [] a = tt
all_last at q (x ∷ xs) a = (each_lasts (at x) q a.0, all_last at q xs a.1)
