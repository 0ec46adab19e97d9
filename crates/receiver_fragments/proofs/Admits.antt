-- What the tests before a fragment is accepted say. Assumes nothing.
use mathlib.Core.Path.{◌≡◌, sym}
use mathlib.Core.List.{List}
use Prim.Native.Nat.{ℕ, ◌≤◌, ◌<◌}
use native.Mathlib.Omega.{arith, ne_cases}
use lib.Dec.{eqb, ltb, leb}
use borrow.Author.Tests.{ltb-false, leb-false, eqb-false}
use Rattle.payload_store.proofs.Cases.{pick_else}
use Rattle.receiver_words.specs.Tables.{Header, word_at}
use Rattle.receiver_fragments.specs.Checks.{admit_code}

below : (t : ℕ) → t ≤ 256 → (t ≡ 256 → ⊥) → t < 256
below t h g = ne_cases t 256 _ g (λ k. k) (λ k. absurd (omega arith))

-- a fragment that is admitted is at most the 4,096th held, from at most the 256th stream
pub admits : (ws : List ℕ) (len n t : ℕ) → 0 ≡ admit_code ws len n t → (t < 256) × (word_at Header ws 0 4 < 4096)
unfolding admit_code
admits ws len n t e =
    let t1 = pick_else (leb 4096 (word_at Header ws 0 4)) 23 _ 0 (λ z. omega arith) (sym e) in
    let t2 = pick_else (ltb 256 t) 16 _ 0 (λ z. omega arith) t1.1 in
    let t3 = pick_else (eqb t 256) 23 _ 0 (λ z. omega arith) t2.1 in
    (below t (ltb-false _ _ t2.0) (eqb-false _ _ t3.0), leb-false _ _ t1.0)
