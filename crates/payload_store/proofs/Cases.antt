-- Cases of two numbers, and what a choice by a test says of the test. Assumes nothing.
use mathlib.Core.Path.{◌≡◌, refl}
use mathlib.Core.Bool.{Bool, true, false}
use Prim.Native.Nat.{ℕ}
use native.Mathlib.Omega.{arith}
use native.Mathlib.Decide.{ℕ_discrete}
use Rattle.queue_words.specs.Flags.{pick}

pub by_index : {G : Type 0} (i j : ℕ) → (i ≡ j → G) → ((i ≡ j → ⊥) → G) → G
by_index {G} i j f g = go (ℕ_discrete i j)
  where
    go : Dec (i ≡ j) → G
    go (yes e) = f e
    go (no ne) = g ne

pub pick_else : {A : Type 0} (t : Bool) (a b v : A) → (a ≡ v → ⊥) → pick t a b ≡ v → (t ≡ false) × (b ≡ v)
pick_else true a b v n e = absurd (n e)
pick_else false a b v n e = (refl, e)

pub pick_then : {A : Type 0} (t : Bool) (a b v : A) → (b ≡ v → ⊥) → pick t a b ≡ v → t ≡ true
pick_then true a b v n e = refl
pick_then false a b v n e = absurd (n e)

pub false_true : {G : Type 0} → false ≡ true → G
false_true e = absurd (let z : ◌≡◌ {A = ℕ} 0 1 = cc in omega arith)

pub pick_both : (t b : Bool) → pick t b false ≡ true → (t ≡ true) × (b ≡ true)
pick_both true b e = (refl, e)
pick_both false b e = false_true e
