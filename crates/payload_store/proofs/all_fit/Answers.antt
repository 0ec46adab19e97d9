-- One row more; where nothing is left, the tally is that of all.
use Rattle.std.proofs.Common.{refl, ◌∙◌, add-one, arith}
use Rattle.payload_store.specs.Putting.{fits_to}
use Rattle.payload_store.proofs.Tests.{all_early, all_ok, all_bad}
use Rattle.payload_store.proofs.all_fit.Goals as goal

pub loop-i-init : goal.loop-i-init
unfolding fits_to
loop-i-init c = refl

pub returns-then-t-eq0 : goal.returns-then-t-eq0
returns-then-t-eq0 c = all_early _ _ _ _ _ (omega arith) c.loop-i.invariant c.if-t-eq0.true

pub loop-i-preserved : goal.loop-i-preserved
unfolding fits_to
loop-i-preserved c = c.row_fits-t.ensures ∙ rw (add-one, c.loop-i.invariant)

pub returns-then-t : goal.returns-then-t
returns-then-t c = all_ok _ _ _ _ _ c.loop-i.invariant (omega arith) c.if-t.true

pub returns-else-t : goal.returns-else-t
returns-else-t c = c.if-t.false ∙ all_bad _ _ _ _ _ c.loop-i.invariant (omega arith) c.if-t.false
