-- `receiver_store::packing::find_start` meets its contract: what is left to find from here is what was to find. Assumes nothing.
use native.Mathlib.Omega.{arith}
use Rattle.receiver_store.proofs.Steps.{start_none, start_out, start_here, start_next, start_end}
use Rattle.receiver_store.proofs.Exits.{row_in}
use Rattle.receiver_store.proofs.packing.find_start.Goals as goal

pub returns-then-p-ge4096 : goal.returns-then-p-ge4096
returns-then-p-ge4096 c = start_none _ _ _ _ _ _ _ _ c.loop-test.true c.loop.invariant.1 c.if-p-ge4096.true

pub returns-then-out : goal.returns-then-out
returns-then-out c = start_out _ _ _ _ _ _ _ _ c.loop-test.true c.loop.invariant.1 _ _ _ c.if-p-ge4096.false c.load_link-place.ensures c.load_link-size.ensures c.misplaced-out.ensures c.if-out.true

pub overflow_add-top : goal.overflow_add-top
overflow_add-top c = let o = row_in _ _ _ _ _ c.misplaced-out.ensures c.if-out.false in let k = c.loop.invariant.0 in omega (arith, o.1, k)

pub overflow_add-after : goal.overflow_add-after
overflow_add-after c = let o = row_in _ _ _ _ _ c.misplaced-out.ensures c.if-out.false in let k = c.loop.invariant.0 in omega (arith, o.1, k)

pub returns-then-after-goal : goal.returns-then-after-goal
returns-then-after-goal c = start_here _ _ _ _ _ _ _ _ c.loop-test.true c.loop.invariant.1 _ _ _ c.if-p-ge4096.false c.load_link-place.ensures c.load_link-size.ensures c.misplaced-out.ensures c.if-out.false c.if-after-goal.true

pub overflow_add-sum : goal.overflow_add-sum
overflow_add-sum c = let o = row_in _ _ _ _ _ c.misplaced-out.ensures c.if-out.false in let k = c.loop.invariant.0 in omega (arith, o.1, k)

pub loop-preserved : goal.loop-preserved
loop-preserved c = (
  let o = row_in _ _ _ _ _ c.misplaced-out.ensures c.if-out.false in let k = c.loop.invariant.0 in omega (arith, o.1, k),
  start_next _ _ _ _ _ _ _ _ c.loop-test.true c.loop.invariant.1 _ _ _ c.if-p-ge4096.false c.load_link-place.ensures c.load_link-size.ensures c.misplaced-out.ensures _ c.if-out.false c.if-after-goal.false c.load_link-p.ensures,
)

pub returns : goal.returns
returns c = start_end _ _ _ _ _ _ _ _ c.loop-test.false c.loop.invariant.1
