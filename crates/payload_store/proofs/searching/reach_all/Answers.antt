-- One row more; where nothing is left, the others reach nothing.
use Rattle.std.proofs.Common.{refl, arith}
use Rattle.payload_store.specs.Searching.{left_to, reach_to}
use Rattle.payload_store.proofs.Found.{reach_early, all_step}
use Rattle.payload_store.proofs.searching.reach_all.Goals as goal

pub loop-i-init : goal.loop-i-init
unfolding reach_to left_to
loop-i-init c = (c.requires, refl)

pub returns-then-left-eq0 : goal.returns-then-left-eq0
returns-then-left-eq0 c = reach_early _ _ _ _ _ (omega arith) c.loop-i.invariant.1 c.if-left-eq0.true c.loop-i.invariant.0

pub loop-i-preserved : goal.loop-i-preserved
loop-i-preserved c = all_step _ _ _ _ _ _ _ _ c.loop-i.invariant.0 c.loop-i.invariant.1 c.if-left-eq0.false c.load_length-size.ensures c.reach_row.ensures c.saturating_sub-left.ensures
