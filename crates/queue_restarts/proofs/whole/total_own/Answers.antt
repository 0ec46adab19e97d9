-- `queue_restarts::whole::total_own` meets its contract: the total of the first i streams. Assumes nothing.
use native.Mathlib.Omega.{arith}
use Rattle.queue_restarts.proofs.Loops.{total_start, total_placed, total_bounded, total_next}
use Rattle.queue_restarts.proofs.whole.total_own.Goals as goal

pub loop-i-init : goal.loop-i-init
loop-i-init c = (omega (arith, c.ranges.total.fits), total_start _ _)

pub load_stream-s-requires : goal.load_stream-s-requires
load_stream-s-requires c = omega (arith, total_placed _ _ _ c.requires.1 _ c.loop-i-test.true _ c.load_known-k.ensures)

pub overflow_add-sum : goal.overflow_add-sum
overflow_add-sum c = record {
  fits =
      total_bounded _ _ _ c.requires.1 _ c.loop-i-test.true _ c.load_known-k.ensures
      _ c.load_stream-s.ensures _ c.put_back-back.ensures _ c.loop-i.invariant.1 c.loop-i.invariant.0;
}

pub loop-i-preserved : goal.loop-i-preserved
loop-i-preserved c =
    let d = c.requires.1 in
    let h = c.loop-i-test.true in
    let k = c.load_known-k.ensures in
    let s = c.load_stream-s.ensures in
    let b = c.put_back-back.ensures in
    let e = c.loop-i.invariant.1 in
    (total_bounded _ _ _ d _ h _ k _ s _ b _ e c.loop-i.invariant.0, total_next _ _ _ d _ h _ k _ s _ b _ e)
