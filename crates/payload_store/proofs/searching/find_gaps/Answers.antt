-- `payload_store::searching::find_gaps` meets its contract: nothing, or the bytes of the two longest runs. Assumes nothing.
use native.Mathlib.Omega.{arith}
use mathlib.Core.Path.{◌∙◌}
use Rattle.payload_store.proofs.Found.{run_small, min_within, out_large, out_run}
use Rattle.payload_store.proofs.searching.find_gaps.Goals as goal

pub returns-then-len-ge-SEARCHED : goal.returns-then-len-ge-SEARCHED
returns-then-len-ge-SEARCHED c = out_large _ _ _ c.if-len-ge-SEARCHED.true

pub overflow_mul-r : goal.overflow_mul-r
overflow_mul-r c = let b = run_small _ _ _ c.longest-r.ensures c.if-len-ge-SEARCHED.false in omega (arith, b.upto_few)

pub overflow_mul-r-2 : goal.overflow_mul-r-2
overflow_mul-r-2 c = let b = run_small _ _ _ c.longest-r.ensures c.if-len-ge-SEARCHED.false in omega (arith, b.high_few)

pub overflow_mul-result : goal.overflow_mul-result
overflow_mul-result c = let b = run_small _ _ _ c.longest-r.ensures c.if-len-ge-SEARCHED.false in omega (arith, b.from_few)

pub overflow_mul-result-2 : goal.overflow_mul-result-2
overflow_mul-result-2 c = let b = run_small _ _ _ c.longest-r.ensures c.if-len-ge-SEARCHED.false in omega (arith, b.low_few)

pub returns : goal.returns
returns c = out_run _ _ _ _ _ _ _ c.if-len-ge-SEARCHED.false c.reach_all.ensures c.longest-r.ensures (c.min.ensures ∙ min_within _ _) (c.min-2.ensures ∙ min_within _ _)
