-- `receiver_fragments::freeing::hand_out` meets its contract: what is left to hand out from here is what was to hand out. Assumes nothing.
use native.Mathlib.Omega.{arith}
use Rattle.receiver_fragments.proofs.Steps.{hand_kept, hand_last, hand_none, hand_long, hand_next, hand_end}
use Rattle.receiver_fragments.proofs.freeing.hand_out.Goals as goal

pub returns-then-f : goal.returns-then-f
returns-then-f c = hand_last _ _ _ _ _ _ _ _ _ _ _ c.loop-test.true c.load_fragment-f.ensures c.read_payload.ensures.1 c.free_row.ensures c.loop.invariant.1.1.1 c.if-f.true

pub returns-then-j-ge4096 : goal.returns-then-j-ge4096
returns-then-j-ge4096 c = hand_none _ _ _ _ _ _ _ _ _ _ _ c.loop-test.true c.load_fragment-f.ensures c.read_payload.ensures.1 c.free_row.ensures c.loop.invariant.1.1.1 _ c.if-f.false c.part_after-j.ensures c.if-j-ge4096.true

pub returns-then-size-gt2000000 : goal.returns-then-size-gt2000000
returns-then-size-gt2000000 c = hand_long _ _ _ _ _ _ _ _ _ _ _ c.loop-test.true c.load_fragment-f.ensures c.read_payload.ensures.1 c.free_row.ensures c.loop.invariant.1.1.1 _ c.if-f.false c.part_after-j.ensures _ c.if-j-ge4096.false c.load_link-size.ensures c.if-size-gt2000000.true

pub loop-preserved : goal.loop-preserved
loop-preserved c = (c.if-j-ge4096.false, ((let a = c.loop.invariant.1.0 in let s = c.if-size-gt2000000.false in omega arith), (hand_kept _ _ _ _ _ _ _ c.read_payload.ensures.1 c.loop.invariant.1.1.0, hand_next _ _ _ _ _ _ _ _ _ _ _ c.loop-test.true c.load_fragment-f.ensures c.read_payload.ensures.1 c.free_row.ensures c.loop.invariant.1.1.1 _ c.if-f.false c.part_after-j.ensures _ c.if-j-ge4096.false c.load_link-size.ensures c.if-size-gt2000000.false)))

pub returns : goal.returns
returns c = hand_end _ _ _ _ _ _ _ _ c.loop-test.false c.loop.invariant.1.1.1
