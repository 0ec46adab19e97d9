-- One piece more.
use Rattle.std.proofs.Common.{refl, ◌∙◌, add-one, arith}
use Rattle.payload_store.specs.Searching.{run_to}
use Rattle.payload_store.proofs.Found.{run_before}
use Rattle.payload_store.proofs.searching.longest.Goals as goal

pub loop-k-init : goal.loop-k-init
unfolding run_to
loop-k-init c = refl

pub run_on-r-requires : goal.run_on-r-requires
run_on-r-requires c = let b = run_before _ _ _ c.loop-k.invariant in (omega arith, b.0, b.1)

pub loop-k-preserved : goal.loop-k-preserved
unfolding run_to
loop-k-preserved c = c.run_on-r.ensures ∙ rw (add-one, c.loop-k.invariant)
