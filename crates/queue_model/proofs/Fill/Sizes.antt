-- The sizes that a filling asks for. Assumes nothing.
use mathlib.Core.Path.{◌≡◌, sym, ap, ap₂}
use mathlib.Core.Bool.{Bool, not, ◌||◌}
use mathlib.Core.List.{[], ◌∷◌}
use Prim.Native.Nat.{ℕ, suc, ◌+◌, ◌≤◌}
use native.Mathlib.Omega.{arith}
use mathlib.Core.Option.{none}
use lib.Dec.{eqb, eqb→eq}
use borrow.Author.Tests.{not-false}
use Rattle.queue_model.specs.Types.{Queue}
use Rattle.queue_model.specs.Refusals.{first_refusal, max_payload, size_wrong, buffer_short}
use Rattle.queue_model.specs.Produce.{produce_checks}
use Rattle.queue_model.specs.Chunks.{chunk_header}
use Rattle.queue_model.specs.Fill.{size_asked, fill_checks}
use Rattle.queue_model.proofs.Tests.{holds, ltb_false, eqb_true}
use Rattle.queue_model.proofs.Checks.{Passed, all_passed}
use Rattle.queue_model.proofs.Invariant.Well.{inside}

-- A size asked for is within the packet limit.
pub size_within : (idata : Bool) (limit used n : ℕ) (q : Queue) → size_asked idata limit used q ≡ suc n → suc n + (used + chunk_header idata) ≤ limit
unfolding size_asked
size_within idata limit used n q e = omega arith

-- 9 and 10 never apply, on any queue: the size is 1 to 65,535, and the part of the packet that is lent is as long.
size_passes : (idata : Bool) (limit used n : ℕ) (q : Queue) → limit ≤ 65535 → size_asked idata limit used q ≡ suc n → Passed (size_wrong (suc n) ∷ buffer_short (suc n) (suc n) ∷ [])
size_passes idata limit used n q l e =
    let h = size_within idata limit used n q e in
    (ap₂ ◌||◌ (ltb_false {a = suc n} {b = 1} (omega arith)) (ltb_false {a = max_payload} {b = suc n} (omega arith)), (ltb_false {a = suc n} {b = suc n} (omega arith), tt))

-- What a filling says once it is past its checks: none of 2, 3, 4, 9 and 10 applies to its calls, on any queue with that store.
pub record Past (store places now limit : ℕ) (q : Queue) : Type 0 where
  pub limit_low : 36 ≤ limit
  pub limit_high : limit ≤ 65535
  pub same_store : q.options.store_length ≡ store
  pub calls_pass : (idata : Bool) (used n : ℕ) (x : Queue) → x.options.store_length ≡ store → size_asked idata limit used x ≡ suc n → Passed (produce_checks store places (suc n) now (suc n) x)

pub past_checks : (store places buffer now limit : ℕ) (q : Queue) → first_refusal (fill_checks store places buffer now limit q) ≡ none → Past store places now limit q
past_checks store places buffer now limit q e =
    let p = all_passed (fill_checks store places buffer now limit q) e in
    let own : ℕ = q.options.store_length in
    let r = inside 36 65535 limit p.0 in
    record {
      limit_low = r.0;
      limit_high = r.1;
      same_store = sym (eqb→eq store own (holds (eqb store own) (not-false (eqb store own) p.1.1.0)));
      calls_pass = λ idata used n x f g. (ap not (eqb_true (sym f)), (p.1.1.1.0, (p.1.1.1.1.0, size_passes idata limit used n x r.1 g)));
    }
