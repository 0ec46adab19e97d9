-- What restoring's test says. Assumes nothing.
use mathlib.Core.Path.{◌≡◌, refl, ◌∙◌}
use mathlib.Core.Bool.{Bool, true, false}
use mathlib.Core.List.{List}
use Prim.Native.Nat.{ℕ, ◌≤◌, ◌<◌}
use native.Mathlib.Omega.{arith}
use borrow.Author.Tests.{lt-ltb}
use lib.Dec.{eqb}
use Rattle.queue_words.specs.Header.{options_at}
use Rattle.handover.specs.Restore.{restore_code}
use Rattle.queue_words.proofs.Finds.{by_lt}

-- A time that is not refused is allowed.
pub time_allowed : (ws : List ℕ) (len time : ℕ) (bs : List ℕ) → 0 ≡ restore_code ws len time bs → time ≤ 4611686018427387903
unfolding restore_code
time_allowed ws len time bs e = by_lt 4611686018427387903 time (λ k. absurd (late k (eqb (options_at ws).store_length len) refl)) (λ k. k)
  where
    late : 4611686018427387903 < time → (b : Bool) → eqb (options_at ws).store_length len ≡ b → ⊥
    late k true f = let z : ◌≡◌ {A = ℕ} 0 4 = e ∙ rw (f, lt-ltb 4611686018427387903 time k) in omega (arith, z)
    late k false f = let z : ◌≡◌ {A = ℕ} 0 2 = e ∙ rw f in omega (arith, z)
