-- `receiver_store::same_code` meets its contract: each way out is a case of `same_code`. Assumes nothing.
use native.Mathlib.Omega.{arith}
use Rattle.receiver_store.proofs.Exits.{row_in, same_outside, same_yes, same_no}
use Rattle.receiver_store.proofs.same_code.Goals as goal

pub returns-then-out : goal.returns-then-out
returns-then-out c = same_outside _ _ _ _ _ _ _ c.load_link-place.ensures c.load_link-size.ensures c.misplaced-out.ensures c.if-out.true

pub overflow_add-end : goal.overflow_add-end
overflow_add-end c = let o = row_in _ _ _ _ _ c.misplaced-out.ensures c.if-out.false in omega (arith, o.1)

pub slice_bounds-same_bytes-end : goal.slice_bounds-same_bytes-end
slice_bounds-same_bytes-end c = let o = row_in _ _ _ _ _ c.misplaced-out.ensures c.if-out.false in omega (arith, o.1)

pub returns-then-same : goal.returns-then-same
returns-then-same c = same_yes _ _ _ _ _ _ _ c.load_link-place.ensures c.load_link-size.ensures c.misplaced-out.ensures _ c.if-out.false c.same_bytes-same.ensures c.if-same.true

pub returns : goal.returns
returns c = same_no _ _ _ _ _ _ _ c.load_link-place.ensures c.load_link-size.ensures c.misplaced-out.ensures _ c.if-out.false c.same_bytes-same.ensures c.if-same.false
