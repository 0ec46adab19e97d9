-- Where a neighbour of a fragment is missing, it makes no message whole. Over plain values. Assumes nothing.
use mathlib.Core.Path.{◌≡◌, refl, sym, ap, ◌∙◌}
use mathlib.Core.Bool.{Bool, true, false}
use mathlib.Core.List.{List}
use Prim.Native.Nat.{ℕ}
use native.Mathlib.Omega.{arith}
use lib.Dec.{leb}
use borrow.Author.Tests.{leb-true}
use Rattle.queue_words.specs.Flags.{pick, bit}
use Rattle.receiver_words.specs.Fragments.{fragment_at}
use Rattle.receiver_words.specs.declared.fragments.Fragment.{Fragment}
use Rattle.receiver_messages.specs.Walks.{begins_with, row_after, row_before_words, reaches_last, first_row, missing_after, missing_before, completes}
use Rattle.receiver_messages.proofs.Steps.{reach_none, first_none}

-- ------------------------------------------------------------------ what the two tests answer

module _ (ws : List ℕ) (b : Bool) (i : ℕ) (f : Fragment) (ef : f ≡ fragment_at ws i) where
  pub after_last : f.last ≡ true → false ≡ missing_after ws b i
  unfolding missing_after
  after_last l = let q : (fragment_at ws i).last ≡ true = ap (λ (x : Fragment). x.last) (sym ef) ∙ l in rw q

  pub after_next : (j : ℕ) → f.last ≡ false → j ≡ row_after ws b i → leb 4096 j ≡ missing_after ws b i
  unfolding missing_after
  after_next j l e = let q : (fragment_at ws i).last ≡ false = ap (λ (x : Fragment). x.last) (sym ef) ∙ l in rw (q, ← e)

  pub before_first : (on : Bool) → on ≡ begins_with b f → on ≡ true → false ≡ missing_before ws b i
  unfolding missing_before
  before_first on eo t = let q : begins_with b (fragment_at ws i) ≡ true = ap (begins_with b) (sym ef) ∙ sym eo ∙ t in rw q

  pub before_next : (on : Bool) (j : ℕ) → on ≡ begins_with b f → on ≡ false → j ≡ row_before_words ws b i → leb 4096 j ≡ missing_before ws b i
  unfolding missing_before
  before_next on j eo t e = let q : begins_with b (fragment_at ws i) ≡ false = ap (begins_with b) (sym ef) ∙ sym eo ∙ t in rw (q, ← e)

-- ------------------------------------------------------------------ none is whole

-- a test that no first case answers holds
second : (t u : Bool) → pick t false u ≡ true → (t ≡ false) × (u ≡ true)
second true u e = absurd (let z = ap bit e in omega arith)
second false u e = (refl, e)

either_way : (t : Bool) → ◌≡◌ {A = ℕ} 4096 (pick t 4096 4096)
either_way true = refl
either_way false = refl

pub alone_after : (ws : List ℕ) (b : Bool) (i : ℕ) → missing_after ws b i ≡ true → 4096 ≡ completes ws b i
unfolding missing_after completes
alone_after ws b i e =
    let s = second (fragment_at ws i).last (leb 4096 (row_after ws b i)) e in
    let r = reach_none ws b i 0 (row_after ws b i) (fragment_at ws i) (reaches_last 4096 ws b i) (omega arith) refl s.0 refl (leb-true _ _ s.1) refl in
    rw (← r)

pub alone_before : (ws : List ℕ) (b : Bool) (i : ℕ) → missing_before ws b i ≡ true → 4096 ≡ completes ws b i
unfolding missing_before completes
alone_before ws b i e =
    let s = second (begins_with b (fragment_at ws i)) (leb 4096 (row_before_words ws b i)) e in
    let r = first_none ws b i 0 (row_before_words ws b i) (first_row 4096 ws b i) (fragment_at ws i) (begins_with b (fragment_at ws i)) (omega arith) refl refl s.0 refl (leb-true _ _ s.1) refl in
    rw (← r) (either_way (reaches_last 4096 ws b i))
