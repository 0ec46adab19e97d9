-- What the test of a place says. Assumes nothing.
use mathlib.Core.Path.{◌≡◌, sym}
use mathlib.Core.Bool.{true, false}
use Prim.Native.Nat.{ℕ, ◌+◌, ◌-◌, ◌≤◌}
use native.Mathlib.Omega.{arith}
use lib.Dec.{ltb}
use borrow.Author.Tests.{ltb-false, le-ltb}
use Rattle.payload_store.proofs.Cases.{pick_else, false_true}
use Rattle.receiver_store.specs.Packing.{misplaced}

pub lies_in : (low len place size : ℕ) → misplaced low len place size ≡ false → (low ≤ place) × (place + size ≤ len)
unfolding misplaced
lies_in low len place size e =
    let t1 = pick_else (ltb place low) true _ false (λ z. false_true (sym z)) e in
    let t2 = pick_else (ltb len size) true _ false (λ z. false_true (sym z)) t1.1 in (
      ltb-false place low t1.0,
      omega (arith, ltb-false len size t2.0, ltb-false (len - size) place t2.1),
    )

pub in_lies : (low len place size : ℕ) → low ≤ place → place + size ≤ len → misplaced low len place size ≡ false
unfolding misplaced
in_lies low len place size a b = rw (le-ltb place low a, le-ltb len size (omega arith), le-ltb (len - size) place (omega arith))
